use Rattle.std.proofs.Common.{length}
use Rattle.lnbd_board.proofs.board.end_rows.Given as goal

abbrev pub decreases-rows : goal.decreases-rows
decreases-rows l = length l.rows.rows
