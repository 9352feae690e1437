use Rattle.lnbd_drives.proofs.Exports.{info_was_told}
use Rattle.lnbd_drives.proofs.laws.info_was_told.Goals as goal

pub returns : goal.returns
returns g c = info_was_told
