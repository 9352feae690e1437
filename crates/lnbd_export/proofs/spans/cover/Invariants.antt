use Rattle.std.proofs.Common.{◌≡◌, ℕ, ◌-◌, length, if◌then◌else◌}
use Rattle.lnbd_extents.specs.Positions.{within}
use Rattle.lnbd_export.specs.Spans.{tells_at}
use Rattle.lnbd_export.proofs.spans.cover.Given as goal

abbrev pub invariant-loop-index : goal.invariant-loop-index
invariant-loop-index l = record {
  count : length l.spans.items ≡ length l.fn.spans.items;
  told : (k p : ℕ) → tells_at l.spans.items k p ≡ (if within (l.from, l.index - l.from) k then l.zero else tells_at l.fn.spans.items k p);
}
