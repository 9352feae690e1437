use Rattle.lnbd_drives.proofs.Passing.{said_stays}
use Rattle.lnbd_drives.proofs.laws.said_stays.Goals as goal

pub returns : goal.returns
returns c = said_stays
