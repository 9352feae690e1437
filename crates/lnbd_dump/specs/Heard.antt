-- What the callbacks are told, and what they keep of it: the extents of base:allocation that were told last.
use Rattle.std.specs.Prelude.{◌≡◌, ℕ, ◌+◌, ◌<◌, true, false, List, [], ◌∷◌, Option, Some, None, if◌then◌else◌, bytes_eq}
use Rattle.lnbd_model.specs.declared.export.Extent.{Extent}
use Rattle.lnbd_callbacks.specs.Calls.{Call, Chunk, Extents, Complete, Free}
use Rattle.lnbd_asked.specs.Transcript.{zero_in}
use Rattle.lnbd_kept.specs.Kept.{AllKeep}
use Rattle.lnbd_waits.specs.Begun.{base_allocation}
use Rattle.lnbd_dump.specs.declared.reader.Latest.{Latest}
use Rattle.lnbd_dump.specs.declared.reader.Reader.{Reader}

-- extents, and where the first of them begins
pub record Laid : Type 0 where
  pub at : ℕ
  pub extents : List Extent

-- Extents that are told of the context of this name take the place of those that were told, where it is base:allocation.
abbrev pub now_heard : (name : List ℕ) (offset : ℕ) → List Extent → Option Laid → Option Laid
now_heard name offset entries told = if bytes_eq name base_allocation then Some (record { at = offset; extents = entries }) else told

-- the extents that these calls told last, or these where they told none
abbrev pub told_by : Option Laid → List (Call Reader) → Option Laid
told_by told [] = told
told_by told (Extents callback name offset entries error heard ∷ calls) = told_by (now_heard name offset entries told) calls
told_by told (Chunk callback bytes offset status error heard ∷ calls) = told_by told calls
told_by told (Complete callback error bytes verdict ∷ calls) = told_by told calls
told_by told (Free callback ∷ calls) = told_by told calls

-- what is kept
abbrev pub kept : Latest → Option Laid
kept world = if world.any then Some (record { at = world.at; extents = world.extents.items }) else None

-- These calls lead from one world to the other: each result is to be kept as it is handed over, and the world keeps the extents that are told last, or notes
-- that memory ran out.
pub record Hears (before : Latest) (calls : List (Call Reader)) (after : Latest) : Type 0 where
  pub keeps : AllKeep calls
  pub told : after.short ≡ false → (before.short ≡ false) × (kept after ≡ told_by (kept before) calls)

-- the position was told as zero by these extents, which begin here
abbrev pub IsZeroIn : Option Laid → (from p : ℕ) → Type 0
IsZeroIn None from p = ⊥
IsZeroIn (Some laid) from p = (laid.at ≡ from) × (zero_in laid.at laid.extents p ≡ true)

-- so it was, among so many
abbrev pub IsZeroAmong : Option Laid → (from size p : ℕ) → Type 0
IsZeroAmong told from size p = (p < from + size) × IsZeroIn told from p
