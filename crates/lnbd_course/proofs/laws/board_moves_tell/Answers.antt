use Rattle.lnbd_course.proofs.Telling.{board_moves_tell}
use Rattle.lnbd_course.proofs.laws.board_moves_tell.Goals as goal

pub returns : goal.returns
returns c = board_moves_tell
