use Rattle.lnbd_child.proofs.LengthLemmas.{serving_keeps_length}
use Rattle.lnbd_child.proofs.laws.serving_keeps_length.Goals as goal

pub returns : goal.returns
returns c = serving_keeps_length
