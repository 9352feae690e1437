use Rattle.lnbd_board.proofs.Held.{carried_is_held}
use Rattle.lnbd_board.proofs.laws.carried_is_held.Goals as goal

pub returns : goal.returns
returns c = carried_is_held
