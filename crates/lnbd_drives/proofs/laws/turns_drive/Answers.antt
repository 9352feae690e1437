use Rattle.lnbd_drives.proofs.Turning.{turns_drive}
use Rattle.lnbd_drives.proofs.laws.turns_drive.Goals as goal

pub returns : goal.returns
returns g c = turns_drive _
