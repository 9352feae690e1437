use Rattle.lnbd_drives.proofs.Calling.{taken_drive}
use Rattle.lnbd_drives.proofs.laws.taken_drive.Goals as goal

pub returns : goal.returns
returns g c = taken_drive
