-- How a copy from a file flushes the export: once at most, behind all else.
use Rattle.std.specs.Prelude.{◌≡◌, ◌≢◌, ◌≤◌, ℕ, List, None}
use Rattle.lnbd_link.specs.Call as wire
use Rattle.lnbd_model.specs.declared.target.Place.{Place}
use Rattle.lnbd_asked.specs.Transcript.{dealt_with}
use Rattle.lnbd_plan.specs.declared.summary.Summary.{Summary}
use Rattle.lnbd_board.specs.Files as board
use Rattle.lnbd_board.specs.Requests.{Request}
use Rattle.lnbd_course.specs.AllDone.{AreAllDone}
use Rattle.lnbd_course.specs.Counts.{summary_of}
use Rattle.lnbd_course.specs.Far.{FromFile}
use Rattle.lnbd_course.specs.FarEnds.{SummarizesFar}
use Rattle.lnbd_course.specs.Flushes.{IsUnflushed, OneFlushes}
use Rattle.lnbd_conduct.specs.Told.{AtSome}
use Rattle.lnbd_copyfile.specs.declared.from_file_job.Phase.{Phase}
use Rattle.lnbd_copyfile.specs.declared.from_file_job.Phase.TheVariants.{Copying}

-- What is claimed.

-- By these calls all was done that was to be written and zeroed: they have the copy's summary already, whatever the export was asked is done, and no FLUSH was asked.
pub record CameToRestFrom (size : ℕ) (to : Place) (summary : Summary) (calls : List wire.Call) : Type 0 where
  pub read : List Request
  pub sums : SummarizesFar (FromFile read) to size summary calls
  pub done : AreAllDone (dealt_with to calls)
  pub unflushed : IsUnflushed to calls

-- Only behind a front of the calls by which it came to rest was the export asked to flush, and once at most.
pub record FlushesLastFrom (size : ℕ) (to : Place) (summary : Summary) (calls : List wire.Call) : Type 0 where
  pub rested : AtSome (CameToRestFrom size to summary) calls
  pub once : OneFlushes (dealt_with to calls)

-- Between the steps.

-- A copy of so many bytes past its slices, whose board was told of no error, came to rest by a front of the calls.
abbrev pub HasRested : Phase → (size : ℕ) → Place → board.Seen → List wire.Call → Type 0
HasRested phase size to now calls = phase ≢ Copying → size ≤ 18446744073709551615 → now.error ≡ None → AtSome (CameToRestFrom size to (summary_of size now)) calls
