use Rattle.lnbd_drives.proofs.Saying.{driven_said}
use Rattle.lnbd_drives.proofs.laws.driven_said.Goals as goal

pub returns : goal.returns
returns g c = driven_said
