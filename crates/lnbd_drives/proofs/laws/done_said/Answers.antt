use Rattle.lnbd_drives.proofs.Saying.{done_said}
use Rattle.lnbd_drives.proofs.laws.done_said.Goals as goal

pub returns : goal.returns
returns g c = done_said
