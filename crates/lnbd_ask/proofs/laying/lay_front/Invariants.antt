use Rattle.std.proofs.Common.{◌≡◌, ◌≤◌, ◌+◌, ◌^◌, drop}
use Rattle.lnbd_extents.specs.Lists.{clipped, span}
use Rattle.lnbd_ask.specs.MapSteps.{with_all}
use Rattle.lnbd_ask.proofs.laying.lay_front.Given as goal

-- what is laid and what is left of the extents are all of the front
abbrev pub invariant-told : goal.invariant-told
invariant-told l = record {
  so_far : with_all l.map.items (clipped l.left (drop l.extent-index l.told)) ≡ with_all l.fn.map.items (clipped l.length l.told);
  room : span l.map.items + l.left ≤ 2 ^ 63;
}
