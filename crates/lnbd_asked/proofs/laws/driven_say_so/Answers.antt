use Rattle.lnbd_asked.proofs.Driving.{driven_say_so}
use Rattle.lnbd_asked.proofs.laws.driven_say_so.Goals as goal

pub returns : goal.returns
returns g c = driven_say_so
