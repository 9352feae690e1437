use Rattle.lnbd_machine.proofs.Partial.{step_partial}
use Rattle.lnbd_machine.proofs.laws_of_machine.events_keep_partial.Goals as goal

pub returns : goal.returns
returns g c = step_partial
