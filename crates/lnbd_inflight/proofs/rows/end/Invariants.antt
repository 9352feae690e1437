use Rattle.std.proofs.Common.{length}
use Rattle.lnbd_inflight.specs.Rows.{IsEmptied}
use Rattle.lnbd_inflight.proofs.rows.end.Given as goal

abbrev pub invariant-loop-row : goal.invariant-loop-row
invariant-loop-row g l = IsEmptied l.rows.items

abbrev pub decreases-loop-row : goal.decreases-loop-row
decreases-loop-row g l = length l.rows.items
