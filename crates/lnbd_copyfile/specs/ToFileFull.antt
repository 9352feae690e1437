-- How much is under way in a copy from an export to a file, by its calls on the wires.
use Rattle.std.specs.Prelude.{ℕ, ◌≡◌, ◌⊎◌, ◌+◌, List, [], ◌∷◌, ◌<◌, ◌≤◌, true, ◌-◌, min, ◌++◌, length}
use Rattle.lnbd_model.specs.declared.export.ExportInfo.{ExportInfo}
use Rattle.lnbd_model.specs.declared.target.Place.{Place}
use Rattle.lnbd_link.specs.Call as wire
use Rattle.lnbd_link.specs.declared.wires.Want.{Want}
use Rattle.lnbd_asked.specs.Transcript.{Dealt, dealt_with}
use Rattle.lnbd_plan.specs.declared.cells.Cells.{Cells}
use Rattle.lnbd_plan.specs.declared.grid.Slice.{Slice}
use Rattle.lnbd_plan.specs.declared.options.CopyOptions.{CopyOptions}
use Rattle.lnbd_plan.specs.Laws.{Window, told_by, windows_end, windows_slices}
use Rattle.lnbd_board.specs.Holds.{WasToldZero}
use Rattle.lnbd_tracks.specs.Laws.{moves_bytes}
use Rattle.lnbd_tracks.specs.Unanswered.{AreUnanswered}
use Rattle.lnbd_course.specs.Slices.{AsksExtentsOf, WaitsToRead, WasRead}
use Rattle.lnbd_conduct.specs.declared.terms.Terms.{Terms}
use Rattle.lnbd_conduct.specs.Slices.{AreFullWindows, AsksForNone, IsUntold, cells_of, window}
use Rattle.lnbd_conduct.specs.Told.{AtSome}
use Rattle.lnbd_conduct.specs.Waiting.{NoneForWriting}
use Rattle.lnbd_usage.specs.Pauses.{AtEachPause}
use Rattle.lnbd_connections.specs.Unready.{NegotiatesStill}
use Rattle.lnbd_copyfile.specs.Connects.{WasInformed}
use Rattle.lnbd_copyfile.specs.Shares.{AreSettledTo}

-- Of these slices each was told as zero, or its READ is done; or its READ is unanswered, which so many are. (What came is written to the file, or passed over, before the next pause.)
abbrev pub AreTaken : (source : Dealt) → List Slice → ℕ → Type 0
AreTaken source [] n = n ≡ 0
AreTaken source (slice ∷ slices) n =
    (WasRead slice source × AreTaken source slices n)
    ⊎ (WaitsToRead slice source × ((m : ℕ) × ((n ≡ m + 1) × AreTaken source slices m)))

-- These slices are planned of the source: those of whole windows from its beginning to this place. What is planned as zero was told so by these calls.
pub record ArePlannedSo (end : ℕ) (from : Place) (size : ℕ) (cells : Cells) (slices : List Slice) (calls : List wire.Call) : Type 0 where
  pub parts : List Window
  pub are : slices ≡ windows_slices cells 0 parts
  pub ends : windows_end 0 parts ≡ end
  pub within : end ≤ size
  pub whole : AreFullWindows size 0 parts
  pub told : (p : ℕ) → told_by 0 parts p ≡ true → WasToldZero (dealt_with from calls) p

-- One BLOCK_STATUS of the source is unanswered: it asks for what is left of the window that begins at this place, from some place in it on. Of that
-- less than one block, of this size, was told of by one that is done.
pub record AsksForRest (start : ℕ) (from : Place) (size grain : ℕ) (calls : List wire.Call) : Type 0 where
  pub at : ℕ
  pub ahead : start ≤ at
  pub inside : at < min (start + window) size
  pub asks : AsksExtentsOf (at, min (start + window) size - at) from calls
  pub untold : (p : ℕ) → at + grain ≤ p → IsUntold from p calls

-- As much is under way as may be, in a copy on these terms: as many slices are begun and not finished as are planned and not finished, but no more
-- than the limit, and as many READ are unanswered; and where those slices are fewer than the limit, and windows are left, so is one BLOCK_STATUS.
-- No BLOCK_STATUS is unanswered but one, that for the window that begins where the planned ones end. Where windows are left, the next one was not
-- told of whole: a window that was is planned.
pub record IsFullTo (terms : Terms) (from : Place) (calls : List wire.Call) : Type 0 where
  -- the planned slices that were begun, and those still to come
  pub begun : List Slice
  pub left : List Slice
  -- where the planned windows end
  pub end : ℕ
  pub planned : ArePlannedSo end from terms.size (cells_of terms) (begun ++ left) calls
  -- of those begun so many are not finished
  pub unfinished : ℕ
  pub are : AreTaken (dealt_with from calls) begun unfinished
  pub begins : unfinished ≡ min terms.limit (unfinished + length left)
  pub requests : AreUnanswered moves_bytes (dealt_with from calls) (min terms.limit (unfinished + length left))
  pub extents : unfinished + length left < terms.limit → end < terms.size → AsksForRest end from terms.size terms.grain calls
  pub untold : end < terms.size → IsUntold from (min (end + window) terms.size - 1) calls
  pub asks : ((end < terms.size) × AsksForRest end from terms.size terms.grain calls) ⊎ AsksForNone from calls

-- On which terms.

-- By a front of these calls a connection was told of the export, and on the terms that this and the options settle as much is under way as may be.
pub record HasAllUnderWayTo (options : CopyOptions) (from : Place) (calls : List wire.Call) : Type 0 where
  pub source : ExportInfo
  pub told : AtSome (WasInformed from source) calls
  pub terms : Terms
  pub settled : AreSettledTo options source terms
  pub full : IsFullTo terms from calls

-- At a pause that wants no link for writing a connection negotiates still, or as much is under way as may be, by the calls before it.
abbrev pub IsFullPauseTo : CopyOptions → (from : Place) → (before : List wire.Call) → List Want → Type 0
IsFullPauseTo options from before wants = NoneForWriting wants → NegotiatesStill options.extents from before ⊎ HasAllUnderWayTo options from before

-- So it is at each pause.
abbrev pub PausesAreFullTo : CopyOptions → (from : Place) → List wire.Call → Type 0
PausesAreFullTo options from calls = AtEachPause (IsFullPauseTo options from) calls
