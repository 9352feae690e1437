use Rattle.std.proofs.Common.{◌-◌, ◌≤◌, length}
use Rattle.lnbd_keyed.specs.Keyed.{rank}
use Rattle.lnbd_keyed.proofs.places.rank_of.Given as goal

abbrev pub invariant-loop-low : goal.invariant-loop-low
invariant-loop-low g l = record { low : l.low ≤ rank l.key l.rows; high : rank l.key l.rows ≤ l.high; inside : l.high ≤ length l.rows }

abbrev pub decreases-loop-low : goal.decreases-loop-low
decreases-loop-low g l = l.high - l.low
