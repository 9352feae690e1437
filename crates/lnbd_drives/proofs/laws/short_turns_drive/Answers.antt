use Rattle.lnbd_drives.proofs.Turning.{short_turns_drive}
use Rattle.lnbd_drives.proofs.laws.short_turns_drive.Goals as goal

pub returns : goal.returns
returns g c = short_turns_drive _
