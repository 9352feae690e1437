use Rattle.lnbd_board.proofs.Copied.{copied_is_carried}
use Rattle.lnbd_board.proofs.laws.copied_is_carried.Goals as goal

pub returns : goal.returns
returns c = copied_is_carried
