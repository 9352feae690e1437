use Rattle.lnbd_copyfile.proofs.WaitLemmas.{nothing_hangs}
use Rattle.lnbd_copyfile.proofs.laws.nothing_hangs.Goals as goal

pub returns : goal.returns
returns c = nothing_hangs
