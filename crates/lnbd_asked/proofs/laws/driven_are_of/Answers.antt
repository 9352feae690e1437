use Rattle.lnbd_asked.proofs.Naming.{driven_are_of}
use Rattle.lnbd_asked.proofs.laws.driven_are_of.Goals as goal

pub returns : goal.returns
returns g c = driven_are_of
