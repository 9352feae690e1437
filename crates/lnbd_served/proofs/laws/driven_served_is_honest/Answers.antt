use Rattle.lnbd_served.proofs.Honest.{driven_served_is_honest}
use Rattle.lnbd_served.proofs.laws.driven_served_is_honest.Goals as goal

pub returns : goal.returns
returns g c = driven_served_is_honest
