use Rattle.lnbd_board.proofs.Once.{once}
use Rattle.lnbd_board.proofs.laws.each_is_asked_once.Goals as goal

pub returns : goal.returns
returns c = once
