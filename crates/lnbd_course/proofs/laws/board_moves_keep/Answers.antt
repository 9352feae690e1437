use Rattle.lnbd_course.proofs.Asking.{board_moves_keep}
use Rattle.lnbd_course.proofs.laws.board_moves_keep.Goals as goal

pub returns : goal.returns
returns c = board_moves_keep
