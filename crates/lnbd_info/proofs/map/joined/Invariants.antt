use Rattle.std.proofs.Common.{take}
use Rattle.lnbd_info.specs.Map.{IsMapOf}
use Rattle.lnbd_info.proofs.map.joined.Given as goal

abbrev pub invariant-told : goal.invariant-told
invariant-told l = IsMapOf (take l.extent-index l.told) l.map.items
