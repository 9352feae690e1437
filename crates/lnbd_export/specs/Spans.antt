-- Which positions are told as zero, span by span: each span has edges of its own, and what is told of a position is told by
-- the span in which it lies.
use Rattle.std.specs.Prelude.{ℕ, ◌/◌, Bool, false, List, [], get_or}
use Rattle.lnbd_export.specs.Edges.{differ, is_told}
use Rattle.lnbd_export.specs.declared.spans.Span.{Span}

-- how many positions a span has
abbrev pub span_size : ℕ
span_size = 65536

-- a span whose positions are all told so
abbrev pub all_told : Bool → Span
all_told zero = record { inverted = zero; edges = [] }

-- whether a span tells a position as zero: its edges do, or they don't and are inverted
abbrev pub tells : Span → ℕ → Bool
tells span p = differ span.inverted (is_told span.edges p)

-- what the span of this number tells: behind the last none is told
abbrev pub tells_at : List Span → (k p : ℕ) → Bool
tells_at spans k p = tells (get_or spans k (all_told false)) p

abbrev pub is_told_by : List Span → ℕ → Bool
is_told_by spans p = tells_at spans (p / span_size) p
