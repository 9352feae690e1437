use Rattle.lnbd_history.proofs.Freed.{callbacks_are_called_once}
use Rattle.lnbd_history.proofs.laws_of_history.callbacks_are_called_once.Goals as goal

pub returns : goal.returns
returns g c = callbacks_are_called_once
