use Rattle.lnbd_onesided.proofs.FileLemmas.{to_file_holds}
use Rattle.lnbd_onesided.proofs.laws.to_file_holds.Goals as goal

pub returns : goal.returns
returns c = to_file_holds
