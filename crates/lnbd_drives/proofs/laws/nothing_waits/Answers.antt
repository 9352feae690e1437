use Rattle.lnbd_drives.proofs.Waiting.{nothing_waits}
use Rattle.lnbd_drives.proofs.laws.nothing_waits.Goals as goal

pub returns : goal.returns
returns g c = nothing_waits
