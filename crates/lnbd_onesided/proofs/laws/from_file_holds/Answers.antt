use Rattle.lnbd_onesided.proofs.FileLemmas.{from_file_holds}
use Rattle.lnbd_onesided.proofs.laws.from_file_holds.Goals as goal

pub returns : goal.returns
returns c = from_file_holds
