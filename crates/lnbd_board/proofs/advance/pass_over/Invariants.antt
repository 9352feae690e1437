use Rattle.std.proofs.Common.{length}
use Rattle.lnbd_board.specs.Asks.{Passes}
use Rattle.lnbd_board.proofs.advance.pass_over.Given as goal

abbrev pub invariant-pieces : goal.invariant-pieces
invariant-pieces l = Passes l.how l.fn.left l.left

abbrev pub decreases-pieces : goal.decreases-pieces
decreases-pieces l = length l.left
