use Rattle.std.proofs.Common.{◌≡◌, take}
use Rattle.lnbd_extents.specs.Lists.{span}
use Rattle.lnbd_info.proofs.map.whole_of.Given as goal

abbrev pub invariant-extents : goal.invariant-extents
invariant-extents l = l.whole ≡ span (take l.extent-index l.map)
