use Rattle.lnbd_spoken.proofs.Driving.{driven_stay_so}
use Rattle.lnbd_spoken.proofs.laws.driven_stay_so.Goals as goal

pub returns : goal.returns
returns g c = driven_stay_so
