use Rattle.lnbd_drives.proofs.Calling.{new_drive}
use Rattle.lnbd_drives.proofs.laws.new_drive.Goals as goal

pub returns : goal.returns
returns g c = new_drive
