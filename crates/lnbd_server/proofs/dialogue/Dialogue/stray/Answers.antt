use Rattle.lnbd_export.specs.Requests.{is_extended}
use Rattle.lnbd_server.specs.declared.stage.Stage.TheVariants.{Strayed}
use Rattle.lnbd_server.proofs.Says.{empty_none}
use Rattle.lnbd_server.proofs.dialogue.Dialogue.stray.Goals as goal

pub invariant_of-self : goal.invariant_of-self
invariant_of-self c = empty_none Strayed (is_extended c.self.inside.agreed.replies) _ c.clear.ensures.items
