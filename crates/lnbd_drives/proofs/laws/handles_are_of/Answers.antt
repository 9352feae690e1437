use Rattle.lnbd_drives.proofs.Exports.{handles_are_of}
use Rattle.lnbd_drives.proofs.laws.handles_are_of.Goals as goal

pub returns : goal.returns
returns g c = handles_are_of
