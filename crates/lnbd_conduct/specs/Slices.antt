-- The slices of a copy, by its calls: which are planned, how many are under way, and that all are finished in the end.
use Rattle.std.specs.Prelude.{not, ℕ, ◌≡◌, ◌⊎◌, ◌+◌, List, [], ◌∷◌, ◌<◌, ◌≤◌, Bool, true, ◌-◌, ◌*◌, min, ◌++◌, length}
use Rattle.lnbd_model.specs.declared.target.Place.{Place}
use Rattle.lnbd_model.specs.declared.export.ExportInfo.{ExportInfo}
use Rattle.lnbd_link.specs.Call as wire
use Rattle.lnbd_asked.specs.Transcript.{dealt_with}
use Rattle.lnbd_plan.specs.declared.cells.Cells.{Cells}
use Rattle.lnbd_plan.specs.Laws.{Window, told_by, windows_end, windows_slices}
use Rattle.lnbd_plan.specs.declared.grid.Slice.{Slice}
use Rattle.lnbd_plan.specs.declared.options.CopyOptions.{CopyOptions}
use Rattle.lnbd_board.specs.Holds.{WasToldZero}
use Rattle.lnbd_tracks.specs.Unanswered.{AreUnanswered}
use Rattle.lnbd_course.specs.Reached.{WasTold}
use Rattle.lnbd_course.specs.Slices.{AsksExtentsOf, AreBegun}
use Rattle.lnbd_course.specs.UnderWay.{is_block_status, AreUnderWay}
use Rattle.lnbd_conduct.specs.declared.terms.Terms.{Terms}
use Rattle.lnbd_conduct.specs.Answered.{MayBeRead, WasPassed}
use Rattle.lnbd_conduct.specs.Terms.{IsLimited}
use Rattle.lnbd_conduct.specs.Settled.{AreSettledBy, Settled}

-- how slices are cut by these terms; zeros are left out where the destination is zero
abbrev pub cells_of : Terms → Cells
cells_of terms = record { cell = terms.cell; zero_cell = terms.zero_cell; zeros = not terms.how.skip }

-- the most bytes of a window, of which extents are asked for at once
abbrev pub window : ℕ
window = 134217728

-- Windows from this place on are as long as a window may be, or end where the source does.
abbrev pub AreFullWindows : (size start : ℕ) → List Window → Type 0
AreFullWindows size start [] = Unit {0}
AreFullWindows size start (part ∷ parts) = ((part.count ≡ window) ⊎ (start + part.count ≡ size)) × AreFullWindows size (start + part.count) parts

-- These slices are planned of the source: those of whole windows from its beginning to this place. What is planned as zero was told so by these calls. Each position
-- of these windows lies in the request of a BLOCK_STATUS that is done, or none could be asked for; and one that is done told of it, or it lies in the first block, of
-- this size, of what was asked for.
pub record ArePlannedTo (extents : Bool) (end : ℕ) (from : Place) (size grain : ℕ) (cells : Cells) (slices : List Slice) (calls : List wire.Call) : Type 0 where
  pub parts : List Window
  pub are : slices ≡ windows_slices cells 0 parts
  pub ends : windows_end 0 parts ≡ end
  pub within : end ≤ size
  pub whole : AreFullWindows size 0 parts
  pub told : (p : ℕ) → told_by 0 parts p ≡ true → WasToldZero (dealt_with from calls) p
  pub answered : (p : ℕ) → p < end → MayBeRead extents from p calls
  pub passed : (p : ℕ) → p < end → WasPassed extents grain from p calls

-- No BLOCK_STATUS of the source that is done told of the position.
abbrev pub IsUntold : Place → ℕ → List wire.Call → Type 0
IsUntold from p calls = WasTold from p calls → ⊥

-- One BLOCK_STATUS of the source is unanswered: it asks for what is left of the window that begins at this place, from a whole number of blocks of this size on. Of what
-- it asks for less than one block was told of by one that is done. Each position of the window before was told of by one, or it lies in the first block of what was asked for.
pub record AsksForWindow (extents : Bool) (start : ℕ) (from : Place) (size grain : ℕ) (calls : List wire.Call) : Type 0 where
  pub at : ℕ
  pub ahead : start ≤ at
  pub inside : at < min (start + window) size
  pub asks : AsksExtentsOf (at, min (start + window) size - at) from calls
  pub untold : (p : ℕ) → at + grain ≤ p → IsUntold from p calls
  pub blocks : ℕ
  pub steps : at ≡ start + blocks * grain
  pub passed : (p : ℕ) → start ≤ p → p < at → WasPassed extents grain from p calls

-- No BLOCK_STATUS of the source is unanswered.
abbrev pub AsksForNone : Place → List wire.Call → Type 0
AsksForNone from calls = AreUnanswered is_block_status (dealt_with from calls) 0

-- As much is under way as may be, in a copy on these terms: as many slices are begun and not finished as are planned and not finished, but no more than the limit; of READ, WRITE and WRITE_ZEROES as many are unanswered; and
-- where those slices are fewer than the limit, and windows are left, so is one BLOCK_STATUS. No BLOCK_STATUS is unanswered but one, that for the window that begins where
-- the planned ones end: so none is where no windows are left. Where windows are left, the next one was not told of whole: a window that was is planned.
pub record IsFull (asking : Bool) (terms : Terms) (from to : Place) (calls : List wire.Call) : Type 0 where
  -- the planned slices that were begun, and those still to come
  pub begun : List Slice
  pub left : List Slice
  -- where the planned windows end
  pub end : ℕ
  pub planned : ArePlannedTo asking end from terms.size terms.grain (cells_of terms) (begun ++ left) calls
  -- of those begun so many are not finished
  pub unfinished : ℕ
  pub are : AreBegun terms.how (dealt_with from calls) (dealt_with to calls) begun unfinished
  pub begins : unfinished ≡ min terms.limit (unfinished + length left)
  pub requests : AreUnderWay from to (min terms.limit (unfinished + length left)) calls
  pub extents : unfinished + length left < terms.limit → end < terms.size → AsksForWindow asking end from terms.size terms.grain calls
  pub untold : end < terms.size → IsUntold from (min (end + window) terms.size - 1) calls
  pub asks : ((end < terms.size) × AsksForWindow asking end from terms.size terms.grain calls) ⊎ AsksForNone from calls

-- So it is on the terms that these options and what both sides told settle.
pub record IsFullBy (options : CopyOptions) (from to : Place) (source destination : ExportInfo) (calls : List wire.Call) : Type 0 where
  pub terms : Terms
  pub settled : AreSettledBy options source destination terms
  pub limited : IsLimited options terms
  pub full : IsFull options.extents terms from to calls

-- By these calls both sides told what they are, and as much is under way as may be.
abbrev pub HasAllUnderWay : CopyOptions → (from to : Place) → List wire.Call → Type 0
HasAllUnderWay options from to calls = Settled options.extents from to (λ source destination. IsFullBy options from to source destination calls) calls

-- On these terms the source is planned to its end, and each of the planned slices is finished by these calls.
pub record IsWhole (extents : Bool) (terms : Terms) (from to : Place) (calls : List wire.Call) : Type 0 where
  pub slices : List Slice
  pub planned : ArePlannedTo extents terms.size from terms.size terms.grain (cells_of terms) slices calls
  pub finished : AreBegun terms.how (dealt_with from calls) (dealt_with to calls) slices 0

-- So it is on the terms that these options and what both sides told settle.
pub record IsWholeBy (options : CopyOptions) (from to : Place) (source destination : ExportInfo) (calls : List wire.Call) : Type 0 where
  pub terms : Terms
  pub settled : AreSettledBy options source destination terms
  pub whole : IsWhole options.extents terms from to calls

-- By these calls both sides told what they are, and nothing is left to do.
abbrev pub WasCopiedWhole : CopyOptions → (from to : Place) → List wire.Call → Type 0
WasCopiedWhole options from to calls = Settled options.extents from to (λ source destination. IsWholeBy options from to source destination calls) calls
