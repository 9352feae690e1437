use Rattle.lnbd_copy.proofs.WrittenLemmas.{vain_is_last}
use Rattle.lnbd_copy.proofs.laws.vain_writes_are_last.Goals as goal

pub returns : goal.returns
returns c = vain_is_last
