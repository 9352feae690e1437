use Rattle.lnbd_chunks.proofs.Whole.{replies_are_whole}
use Rattle.lnbd_chunks.proofs.laws.replies_are_whole.Goals as goal

pub returns : goal.returns
returns g c = replies_are_whole
