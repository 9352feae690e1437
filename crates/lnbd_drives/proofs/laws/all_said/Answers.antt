use Rattle.lnbd_drives.proofs.Saying.{all_said}
use Rattle.lnbd_drives.proofs.laws.all_said.Goals as goal

pub returns : goal.returns
returns g c = all_said
