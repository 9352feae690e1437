-- Whether data that are still to come to a read will have a content fault.
use Rattle.std.specs.Prelude.{◌≡◌, ℕ, Bool, true, false, List, [], replicate, Option, Some, None}
use Rattle.lnbd_keyed.specs.Keyed.{value_at}
use Rattle.lnbd_model.specs.Kind.{is_read}
use Rattle.lnbd_records.specs.Content.{Data}
use Rattle.lnbd_chunks.specs.Chunk.{Waiting, lies_within}
use Rattle.lnbd_outcome.specs.Facts.{is_bad}
use Rattle.lnbd_machine.specs.Machine.{Row, query_in}

-- a read in flight asked for so many bytes from this place of the export on
abbrev pub HasAsked : Option Waiting → (offset size : ℕ) → Type 0
HasAsked None offset size = ⊥
HasAsked (Some known) offset size = (is_read known.kind ≡ true) × (lies_within known offset size ≡ true)

module _ {K : Type 0} where
  -- A chunk of so many data from this place of the export on has a content fault. No fault of data hangs on what they are, so zeros stand for them, nor on meta contexts.
  abbrev pub is_faulty : Row K → (offset size : ℕ) → Bool
  is_faulty row offset size = is_bad (query_in row) [] row.facts (Data offset (replicate size 0))

  abbrev pub faulty_as : Option (Row K) → (offset size : ℕ) → Bool
  faulty_as None offset size = false
  faulty_as (Some row) offset size = is_faulty row offset size

  -- the same of the command of a cookie
  abbrev pub faulty_at : ℕ → (offset size : ℕ) → List (ℕ × Row K) → Bool
  faulty_at cookie offset size rows = faulty_as (value_at cookie rows) offset size
