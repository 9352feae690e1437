use Rattle.lnbd_drives.proofs.Turning.{turns_pass_others}
use Rattle.lnbd_drives.proofs.laws.turns_pass_others.Goals as goal

pub returns : goal.returns
returns g c = turns_pass_others _
