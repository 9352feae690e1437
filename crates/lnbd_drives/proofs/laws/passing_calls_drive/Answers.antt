use Rattle.lnbd_drives.proofs.Turning.{passing_calls_drive}
use Rattle.lnbd_drives.proofs.laws.passing_calls_drive.Goals as goal

pub returns : goal.returns
returns g c = passing_calls_drive
