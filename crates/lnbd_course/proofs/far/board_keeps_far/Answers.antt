use Rattle.lnbd_course.proofs.FarKeeping.{board_moves_keep_far, unasked_moves_keep_far}
use Rattle.lnbd_course.proofs.far.board_keeps_far.Goals as goal

pub returns : goal.returns
returns c = record { moves = board_moves_keep_far; unasked = unasked_moves_keep_far }
