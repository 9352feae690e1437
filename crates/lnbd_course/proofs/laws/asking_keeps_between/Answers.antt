use Rattle.lnbd_course.proofs.Placing.{source_asks_keep_between, destination_asks_keep_between, board_moves_keep_between, others_keep_between}
use Rattle.lnbd_course.proofs.laws.asking_keeps_between.Goals as goal

pub returns : goal.returns
returns c = record { source = source_asks_keep_between; destination = destination_asks_keep_between; board = board_moves_keep_between; others = others_keep_between }
