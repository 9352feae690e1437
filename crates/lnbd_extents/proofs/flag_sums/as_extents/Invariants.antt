use Rattle.std.proofs.Common.{◌≡◌, take}
use Rattle.lnbd_extents.specs.Lists.{by_flags}
use Rattle.lnbd_extents.proofs.flag_sums.as_extents.Given as goal

abbrev pub invariant-loop-row : goal.invariant-loop-row
invariant-loop-row l = by_flags l.extents.items ≡ take l.row-index l.rows
