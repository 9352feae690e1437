-- What the summary of a copy says of its calls.
use Rattle.std.specs.Prelude.{◌≡◌, ◌≢◌, ℕ, zero, suc, ◌+◌, ◌-◌, ◌≤◌, Bool, false, ◌||◌, List, [], ◌∷◌, ◌++◌, cond, length, Some, None}
use Rattle.lnbd_model.specs.Kind.{is_read, is_write}
use Rattle.lnbd_model.specs.declared.target.Place.{Place}
use Rattle.lnbd_link.specs.Call.{Call}
use Rattle.lnbd_asked.specs.Honest.{covers}
use Rattle.lnbd_asked.specs.Transcript.{Dealt, dealt_with}
use Rattle.lnbd_plan.specs.declared.cells.Cells.{Cells}
use Rattle.lnbd_plan.specs.declared.grid.Slice.{Slice}
use Rattle.lnbd_plan.specs.declared.summary.Summary.{Summary}
use Rattle.lnbd_plan.specs.Laws.{IsPlannedOnce}
use Rattle.lnbd_board.specs.declared.how.How.{How}
use Rattle.lnbd_board.specs.Files as board
use Rattle.lnbd_board.specs.Holds.{WasToldSize}
use Rattle.lnbd_board.specs.Requests.{Request, IsDealt}
use Rattle.lnbd_tracks.specs.Tracks.{under}
use Rattle.lnbd_course.specs.Between.{Between}
use Rattle.lnbd_course.specs.Counted.{bytes_of, is_zero}

-- These are the requests that were asked of an export, each once.
pub record AreAll (requests : List Request) (dealt : Dealt) : Type 0 where
  pub are : IsDealt requests dealt
  pub once : (link cookie : ℕ) → length (under link cookie requests) ≤ 1

-- some request changes the position
abbrev pub is_covered : List Request → ℕ → Bool
is_covered [] p = false
is_covered (r ∷ rs) p = covers r.said.command p || is_covered rs p

-- how many of the first positions no request changes
abbrev pub uncovered : List Request → ℕ → ℕ
uncovered requests zero = 0
uncovered requests (suc p) = cond (is_covered requests p) 0 1 + uncovered requests p

-- A summary of these calls has the bytes that the source was asked to read, and those that the destination was asked to write and to zero; and, of the
-- source's positions, how many no request covers on the destination.
pub record Summarizes (from to : Place) (summary : Summary) (calls : List Call) : Type 0 where
  pub source : List Request
  pub destination : List Request
  pub reads : AreAll source (dealt_with from calls)
  pub changes : AreAll destination (dealt_with to calls)
  pub size : ℕ
  pub told : WasToldSize (dealt_with from calls) size
  pub read : summary.read ≡ bytes_of is_read source
  pub written : summary.written ≡ bytes_of is_write destination
  pub zeroed : summary.zeroed ≡ bytes_of is_zero destination
  pub skipped : summary.skipped ≡ uncovered destination size

-- what a board says in the end of a copy of so many bytes
abbrev pub summary_of : (size : ℕ) → board.Seen → Summary
summary_of size now = record { read = now.read; written = now.written; zeroed = now.zeroed; skipped = size - now.written - now.zeroed }

-- Where no handle is held, nothing is begun and not over, no error was told, and the slices plan no position twice, that is a summary of the calls of a copy
-- from one place to another.
abbrev pub EndedSums : Type 0
EndedSums = (from to : Place) (size : ℕ) (how : How) (has : ℕ → Bool) (slices rest : List Slice) (now : board.Seen) (calls : List Call) (cells : Cells) (told : ℕ → Bool) (end : ℕ) →
    Between from to (Some size) how has slices now calls [] → now.rows ≡ [] → now.error ≡ None → ((p : ℕ) → IsPlannedOnce cells told 0 end p (slices ++ rest)) → end ≤ size → size ≤ 18446744073709551615 → from ≢ to →
    Summarizes from to (summary_of size now) calls
