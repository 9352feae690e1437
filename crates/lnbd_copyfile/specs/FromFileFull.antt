-- How much is under way in a copy from a file to an export, by its calls on the wires.
use Rattle.std.specs.Prelude.{ℕ, Bool, ◌≡◌, ◌⊎◌, ◌+◌, List, [], ◌∷◌, min, ◌++◌, length, false}
use Rattle.lnbd_model.specs.declared.export.ExportInfo.{ExportInfo}
use Rattle.lnbd_model.specs.declared.target.Place.{Place}
use Rattle.lnbd_link.specs.Call as wire
use Rattle.lnbd_link.specs.declared.wires.Want.{Want}
use Rattle.lnbd_asked.specs.Transcript.{Dealt, dealt_with}
use Rattle.lnbd_plan.specs.declared.grid.Slice.{Slice}
use Rattle.lnbd_plan.specs.declared.options.CopyOptions.{CopyOptions}
use Rattle.lnbd_plan.specs.Laws.{Window}
use Rattle.lnbd_board.specs.declared.how.How.{How}
use Rattle.lnbd_board.specs.Requests.{Request}
use Rattle.lnbd_onesided.specs.Dealt.{dealt_by}
use Rattle.lnbd_tracks.specs.Laws.{moves_bytes}
use Rattle.lnbd_tracks.specs.Unanswered.{AreUnanswered}
use Rattle.lnbd_course.specs.Far.{AreNumbered}
use Rattle.lnbd_course.specs.Slices.{IsFinished, WaitsToChange}
use Rattle.lnbd_conduct.specs.declared.terms.Terms.{Terms}
use Rattle.lnbd_conduct.specs.Grounds.{Drove, IsShown}
use Rattle.lnbd_conduct.specs.Slices.{AreFullWindows, cells_of}
use Rattle.lnbd_conduct.specs.Told.{AtSome}
use Rattle.lnbd_conduct.specs.Waiting.{NoneForWriting}
use Rattle.lnbd_usage.specs.Pauses.{AtEachPause}
use Rattle.lnbd_connections.specs.Unready.{NegotiatesStill}
use Rattle.lnbd_copyfile.specs.Holes.{IsReadWhole}
use Rattle.lnbd_copyfile.specs.Shares.{AreSettledFrom}

-- Of these slices each is finished; or it was read, unless it counts as zero, and a WRITE or WRITE_ZEROES of it is unanswered, which so many are.
abbrev pub AreSent : How → (source destination : Dealt) → List Slice → ℕ → Type 0
AreSent how source destination [] n = n ≡ 0
AreSent how source destination (slice ∷ slices) n =
    (IsFinished how slice source destination × AreSent how source destination slices n)
    ⊎ (WaitsToChange how slice source destination × ((m : ℕ) × ((n ≡ m + 1) × AreSent how source destination slices m)))

-- As much is under way as may be, in a copy on these terms: as many slices are begun and not finished as are not finished at all, but no more than the limit; and as
-- many WRITE and WRITE_ZEROES are unanswered.
pub record IsFullFrom (terms : Terms) (to : Place) (calls : List wire.Call) : Type 0 where
  -- the slices that were begun, and those still to come: all of the file, cut window by window, of which these positions may count as zero
  pub begun : List Slice
  pub left : List Slice
  pub windows : List Window
  pub zero : ℕ → Bool
  pub planned : IsReadWhole terms.how (cells_of terms) windows zero terms.size (begun ++ left)
  pub whole : AreFullWindows terms.size 0 windows
  -- what was read of the file, one request after another, all of which is done
  pub read : List Request
  pub done : AreNumbered 0 read
  -- of those begun so many are not finished
  pub unfinished : ℕ
  pub are : AreSent terms.how (dealt_by terms.size read) (dealt_with to calls) begun unfinished
  pub begins : unfinished ≡ min terms.limit (unfinished + length left)
  pub requests : AreUnanswered moves_bytes (dealt_with to calls) (min terms.limit (unfinished + length left))

-- On which terms.

-- By a front of these calls a connection was told of the export, and on the terms that this and the options settle as much is under way as may be.
pub record HasAllUnderWayFrom (options : CopyOptions) (to : Place) (calls : List wire.Call) : Type 0 where
  pub destination : ExportInfo
  pub told : AtSome (Drove false to (IsShown destination)) calls
  pub terms : Terms
  pub settled : AreSettledFrom options destination terms
  pub full : IsFullFrom terms to calls

-- At a pause that wants no link for writing a connection negotiates still, or as much is under way as may be, by the calls before it.
abbrev pub IsFullPauseFrom : CopyOptions → (to : Place) → (before : List wire.Call) → List Want → Type 0
IsFullPauseFrom options to before wants = NoneForWriting wants → NegotiatesStill false to before ⊎ HasAllUnderWayFrom options to before

-- So it is at each pause.
abbrev pub PausesAreFullFrom : CopyOptions → (to : Place) → List wire.Call → Type 0
PausesAreFullFrom options to calls = AtEachPause (IsFullPauseFrom options to) calls
