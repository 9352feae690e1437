-- What is so of what was asked from one place to another, whatever a copy comes to.
use Rattle.std.specs.Prelude.{List, ◌⊎◌, ◌≡◌, ℕ, true, Some, slice_get, Bool, false}
use Rattle.lnbd_model.specs.declared.target.Place.{Place}
use Rattle.lnbd_history.specs.Commands.{Command}
use Rattle.lnbd_link.specs.Call as wire
use Rattle.lnbd_asked.specs.Transcript.{dealt_with}
use Rattle.lnbd_asked.specs.Link.{Nobody}
use Rattle.lnbd_plan.specs.declared.options.CopyOptions.{CopyOptions}
use Rattle.lnbd_course.specs.Cells.{AreInCells}
use Rattle.lnbd_course.specs.Parts.{NothingWasAsked, AsksAtMostOnce, FlushesAtMostOnce}
use Rattle.lnbd_course.specs.Counted.{is_flush}
use Rattle.lnbd_course.specs.Runs.{WritesRuns}
use Rattle.lnbd_course.specs.Flushes.{IsUnflushed}
use Rattle.lnbd_conduct.specs.Settled.{Settled, SparesFound, SparesTold}
use Rattle.lnbd_conduct.specs.Terms.{cell, zero_cell, how_by, grain}
use Rattle.lnbd_conduct.specs.Driven.{given_links}
use Rattle.lnbd_conduct.specs.Answered.{ReadsArePassed, ReadsAreAnswered}
use Rattle.lnbd_conduct.specs.Shares.{IsAlwaysShared}

-- Each READ and each WRITE is in a cell, and each WRITE_ZEROES is, or in a cell of zeros: cells as large as the options and both sides settle.
abbrev pub KeepsToCells : CopyOptions → (from to : Place) → List wire.Call → Type 0
KeepsToCells options from to calls = Settled options.extents from to (λ source destination. AreInCells (cell options source destination) (zero_cell options source destination) (dealt_with from calls) (dealt_with to calls)) calls

-- Nothing was asked yet, or so it is.
abbrev pub CutSoFar : CopyOptions → (from to : Place) → List wire.Call → Type 0
CutSoFar options from to calls = NothingWasAsked calls ⊎ KeepsToCells options from to calls

-- Each FLUSH of the destination was asked on the link that was given second: that of its first connection, which is made behind the source's first and before all others.
abbrev pub FlushesOnFirst : (to : Place) → List wire.Call → Type 0
FlushesOnFirst to calls = (link cookie : ℕ) (command : Command Nobody) → (dealt_with to calls).asked link cookie ≡ Some command → is_flush command.kind ≡ true → slice_get (given_links calls) 1 ≡ Some link

-- Each WRITE and each WRITE_ZEROES is a longest run of what one READ told, or has only positions that were told as zero. Zeros are looked for in blocks as large
-- as the options and both sides settle, where they are.
abbrev pub KeepsToRuns : CopyOptions → (from to : Place) → List wire.Call → Type 0
KeepsToRuns options from to calls = Settled options.extents from to (λ source destination. WritesRuns (how_by options source destination) (dealt_with from calls) (dealt_with to calls)) calls

-- Nothing was asked yet, or so it is.
abbrev pub RunsSoFar : CopyOptions → (from to : Place) → List wire.Call → Type 0
RunsSoFar options from to calls = NothingWasAsked calls ⊎ KeepsToRuns options from to calls

-- Nothing was asked yet, or no WRITE has a whole block of zeros, where they are looked for.
abbrev pub SparesSoFar : CopyOptions → (from to : Place) → List wire.Call → Type 0
SparesSoFar options from to calls = NothingWasAsked calls ⊎ SparesFound options from to calls

-- Nothing was asked yet, or no READ covers a block that one answer told as zero whole.
abbrev pub UntouchedSoFar : (extents : Bool) → (from to : Place) → List wire.Call → Type 0
UntouchedSoFar extents from to calls = NothingWasAsked calls ⊎ SparesTold extents from to calls

-- Asking for extents passed each position that was read before it was read, for blocks as large as the larger least block of both sides.
abbrev pub ReadsWerePassed : (extents : Bool) (from to : Place) → List wire.Call → Type 0
ReadsWerePassed extents from to calls = Settled extents from to (λ source destination. ReadsArePassed extents (grain source destination) from calls) calls

-- Nothing was asked yet, or it is so.
abbrev pub PassedSoFar : (extents : Bool) (from to : Place) → List wire.Call → Type 0
PassedSoFar extents from to calls = NothingWasAsked calls ⊎ ReadsWerePassed extents from to calls

-- Nothing was asked twice, no flush among it, none where the options want none, and none but of the destination's first connection; each READ was answered for before, and none is of a block that was told as
-- zero; no WRITE has a block of zeros that was found; at every moment what was unanswered was shared; no request is larger than a cell; each READ was passed by asking before; and each change is
-- a longest run of what was read, or has only what was told as zero.
pub record Behaves (options : CopyOptions) (from to : Place) (calls : List wire.Call) : Type 0 where
  pub asks : AsksAtMostOnce options.allocated options.destination_is_zero from to calls
  pub answered : ReadsAreAnswered options.extents from calls
  pub dense : SparesSoFar options from to calls
  pub flushes : FlushesAtMostOnce to calls
  pub unflushed : options.flush ≡ false → IsUnflushed to calls
  pub untouched : UntouchedSoFar options.extents from to calls
  pub shared : IsAlwaysShared options from to calls
  pub cut : CutSoFar options from to calls
  pub first : FlushesOnFirst to calls
  pub passed : PassedSoFar options.extents from to calls
  pub runs : RunsSoFar options from to calls
