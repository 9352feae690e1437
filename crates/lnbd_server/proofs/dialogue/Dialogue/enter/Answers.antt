use Rattle.std.proofs.Common.{ap, ◌∙◌}
use Rattle.lnbd_export.specs.Requests.{is_extended}
use Rattle.lnbd_server.specs.Session.{Dialogue}
use Rattle.lnbd_server.specs.declared.stage.Stage.TheVariants.{Haggling, Ended, Strayed}
use Rattle.lnbd_server.proofs.Says.{empty_none}
use Rattle.lnbd_server.proofs.dialogue.Dialogue.enter.Goals as goal

pub invariant_of-self : goal.invariant_of-self
invariant_of-self c = empty_none Haggling (is_extended c.self.inside.agreed.replies) _ (ap (λ (d : Dialogue). d.heard) c.self.view_is ∙ c.requires.none)

pub invariant_of-self-in-Disconnect : goal.invariant_of-self-in-Disconnect
invariant_of-self-in-Disconnect c =
    empty_none Ended (is_extended c.self-in-Disconnect.inside.agreed.replies) _ (ap (λ (d : Dialogue). d.heard) c.self-in-Disconnect.view_is ∙ c.requires.none)

pub invariant_of-self-in-Stray : goal.invariant_of-self-in-Stray
invariant_of-self-in-Stray c = empty_none Strayed (is_extended c.self-in-Stray.inside.agreed.replies) _ (ap (λ (d : Dialogue). d.heard) c.self-in-Stray.view_is ∙ c.requires.none)
