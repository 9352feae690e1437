use Rattle.lnbd_drives.proofs.Exports.{export_was_told}
use Rattle.lnbd_drives.proofs.laws.export_was_told.Goals as goal

pub returns : goal.returns
returns g c = export_was_told
