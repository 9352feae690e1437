use Rattle.lnbd_rehearsal.proofs.CarryLemmas.{copies_move_bytes}
use Rattle.lnbd_rehearsal.proofs.laws.copies_move_bytes.Goals as goal

pub returns : goal.returns
returns c = copies_move_bytes
