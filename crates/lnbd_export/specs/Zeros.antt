-- Which positions are told as zero, in both forms in which they are kept.
use Rattle.std.specs.Prelude.{ℕ, Bool}
use Rattle.lnbd_extents.specs.Positions.{holds}
use Rattle.lnbd_export.specs.Spans.{is_told_by}
use Rattle.lnbd_export.specs.declared.zeros.Zeros.{Zeros}
use Rattle.lnbd_export.specs.declared.zeros.Zeros.TheVariants.{Given, Turning}

-- whether a position is told as zero
abbrev pub told : Zeros → ℕ → Bool
told (Given ranges) = holds ranges
told (Turning spans) = is_told_by spans.spans.items
