use Rattle.lnbd_drives.proofs.Turning.{other_calls_pass}
use Rattle.lnbd_drives.proofs.laws.other_calls_pass.Goals as goal

pub returns : goal.returns
returns g c = other_calls_pass
