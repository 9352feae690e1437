use Rattle.std.proofs.Common.{◌≡◌, ℕ, take}
use Rattle.lnbd_extents.specs.Positions.{holds}
use Rattle.lnbd_export.specs.Spans.{is_told_by}
use Rattle.lnbd_export.proofs.spans.Spans.of.Given as goal

abbrev pub invariant-loop-index : goal.invariant-loop-index
invariant-loop-index l = (p : ℕ) → is_told_by l.spans.spans.items p ≡ holds (take l.index l.ranges) p
