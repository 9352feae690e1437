use Rattle.lnbd_drives.proofs.Exports.{turns_give_none}
use Rattle.lnbd_drives.proofs.laws.turns_give_none.Goals as goal

pub returns : goal.returns
returns g c = turns_give_none _
