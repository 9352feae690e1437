use Rattle.lnbd_history.proofs.Freed.{close_frees_all}
use Rattle.lnbd_history.proofs.laws_of_history.close_frees_all.Goals as goal

pub returns : goal.returns
returns g c = close_frees_all
