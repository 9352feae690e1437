use Rattle.lnbd_asked.proofs.Naming.{driven_tell}
use Rattle.lnbd_asked.proofs.laws.driven_tell.Goals as goal

pub returns : goal.returns
returns g c = driven_tell
