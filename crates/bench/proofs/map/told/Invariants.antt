use Rattle.std.proofs.Common.{◌≡◌, ◌*◌}
use Rattle.lnbd_extents.specs.Lists.{span}
use Rattle.bench.proofs.map.told.Given as goal

abbrev pub invariant-told : goal.invariant-told
invariant-told l = span l.told.items ≡ 512 * l.done
