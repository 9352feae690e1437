use Rattle.lnbd_machine.proofs.Right.{calls_are_told}
use Rattle.lnbd_machine.proofs.laws_of_machine.calls_are_told.Goals as goal

pub returns : goal.returns
returns g c = calls_are_told
