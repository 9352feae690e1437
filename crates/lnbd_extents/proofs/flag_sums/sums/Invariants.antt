use Rattle.std.proofs.Common.{◌≡◌, ℕ, take}
use Rattle.lnbd_keyed.specs.Keyed.{value_at, IsRising}
use Rattle.lnbd_extents.specs.Lists.{total_at}
use Rattle.lnbd_extents.proofs.flag_sums.sums.Given as goal

abbrev pub invariant-loop-extent : goal.invariant-loop-extent
invariant-loop-extent l = record {
  rising : IsRising l.rows.items;
  sums : (flags : ℕ) → value_at flags l.rows.items ≡ total_at (take l.extent-index l.list) flags;
}
