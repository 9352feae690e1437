use Rattle.std.proofs.Common.{◌≡◌, true, [], subst}
use Rattle.lnbd_export.specs.Requests.{is_extended}
use Rattle.lnbd_server.specs.Session.{Dialogue, is_closed}
use Rattle.lnbd_server.proofs.Takes.{closed_holds_none}
use Rattle.lnbd_server.proofs.dialogue.Dialogue.is_closed.Goals as goal

pub returns-in-Ended-clause-none : goal.returns-in-Ended-clause-none
returns-in-Ended-clause-none c = subst (λ (d : Dialogue). is_closed d.stage ≡ true → d.heard ≡ []) c.self.view_is
    (λ e. closed_holds_none c.self.inside.stage (is_extended c.self.inside.agreed.replies) c.self.inside.heard.items c.self.invariant e)
