use Rattle.std.proofs.Common.{◌-◌, ◌≤◌, length}
use Rattle.lnbd_extents.specs.Spots.{place}
use Rattle.lnbd_extents.proofs.places.place_of.Given as goal

abbrev pub invariant-loop-low : goal.invariant-loop-low
invariant-loop-low l = record { low : l.low ≤ place l.start l.ranges; high : place l.start l.ranges ≤ l.high; inside : l.high ≤ length l.ranges }

abbrev pub decreases-loop-low : goal.decreases-loop-low
decreases-loop-low l = l.high - l.low
