use Rattle.lnbd_machine.proofs.Right.{machine_is_right}
use Rattle.lnbd_machine.proofs.laws_of_machine.machine_is_right.Goals as goal

pub returns : goal.returns
returns g c = machine_is_right
