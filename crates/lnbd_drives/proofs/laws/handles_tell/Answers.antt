use Rattle.lnbd_drives.proofs.Exports.{handles_tell}
use Rattle.lnbd_drives.proofs.laws.handles_tell.Goals as goal

pub returns : goal.returns
returns g c = handles_tell
