use Rattle.lnbd_bounds.proofs.Spending.{spends}
use Rattle.lnbd_bounds.proofs.laws_of_bounds.events_spend.Goals as goal

pub returns : goal.returns
returns g c = spends
