use Rattle.lnbd_drives.proofs.Calling.{callers_drive}
use Rattle.lnbd_drives.proofs.laws.callers_drive.Goals as goal

pub returns : goal.returns
returns g c = callers_drive
