use Rattle.std.proofs.Common.{◌≡◌, ◌-◌, take}
use Rattle.lnbd_extents.specs.Lists.{span}
use Rattle.lnbd_ask.proofs.laying.reached.Given as goal

abbrev pub invariant-told : goal.invariant-told
invariant-told l = l.left ≡ l.length - span (take l.extent-index l.told)
