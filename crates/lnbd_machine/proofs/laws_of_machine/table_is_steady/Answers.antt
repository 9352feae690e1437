use Rattle.lnbd_machine.proofs.Partial.{table_steady}
use Rattle.lnbd_machine.proofs.laws_of_machine.table_is_steady.Goals as goal

pub returns : goal.returns
returns g c = table_steady
