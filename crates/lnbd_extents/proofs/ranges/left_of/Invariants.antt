use Rattle.std.proofs.Common.{◌≡◌, take}
use Rattle.lnbd_extents.specs.Ranges.{taking_away}
use Rattle.lnbd_extents.proofs.ranges.left_of.Given as goal

abbrev pub invariant-loop-range : goal.invariant-loop-range
invariant-loop-range l = l.left.items ≡ taking_away l.start l.end (take l.range-index l.ranges)
