-- What is under way in a copy from an export to a file, and what its steps leave.
use Rattle.std.specs.Prelude.{◌≡◌, ◌<◌, ◌⊎◌, ◌||◌, ℕ, Bool, true, false, not, List, [], ◌∷◌, ◌++◌, length, slice_index, slice_set, Option, Some, None, is_some, if◌then◌else◌}
use Rattle.lnbd_model.specs.declared.export.Extent.{Extent}
use Rattle.lnbd_link.specs.Call as wire
use Rattle.lnbd_asked.specs.Honest.{changes}
use Rattle.lnbd_poll.specs.Held.{Held}
use Rattle.lnbd_board.specs.declared.row.Row.{Row}
use Rattle.lnbd_board.specs.declared.ticket.Ticket.{Ticket}
use Rattle.lnbd_board.specs.Board.{risen}
use Rattle.lnbd_board.specs.Bound.{IsFewest}
use Rattle.lnbd_board.specs.Files as board
use Rattle.lnbd_board.specs.Requests.{Request}
use Rattle.lnbd_board.specs.Rows.{busy}
use Rattle.lnbd_course.specs.Counted.{bytes_of}
use Rattle.lnbd_course.specs.Far.{ToFile}
use Rattle.lnbd_conduct.specs.declared.terms.Terms.{Terms}
use Rattle.lnbd_conduct.specs.Slices.{cells_of}
use Rattle.lnbd_plan.specs.declared.grid.Slice.{Slice}
use Rattle.lnbd_copy.specs.Bound.{on_source}
use Rattle.lnbd_copy.specs.Dealt.{IsDealt}
use Rattle.lnbd_copy.specs.Heard.{IsHeardTo}
use Rattle.lnbd_copy.specs.Reached.{IsToldTo, told_heard}
use Rattle.lnbd_copy.specs.Spared.{IsSpared, whole_heard}
use Rattle.lnbd_copy.specs.UnderWay.{AreAwaited, IsWantedOf, unfinished}
use Rattle.lnbd_copy.specs.Way.{Stand}
use Rattle.lnbd_copy.specs.Windows as windows
use Rattle.lnbd_store.specs.Shelf.{Shelf}
use Rattle.lnbd_touched.specs.Grown.{RoseBy}
use Rattle.lnbd_touched.specs.Touches.{Touches}
use Rattle.lnbd_connections.specs.Bound.{IsBound}
use Rattle.lnbd_connections.specs.Way.{IsUnderWay, Way, with_slices}
use Rattle.lnbd_copyfile.specs.Jobs.{AreOfOne, Seen}
use Rattle.lnbd_copyfile.specs.Making.{MadeMore}

-- All slices of all windows are over.
pub record IsOver (job : Seen) (now : board.Seen) : Type 0 where
  pub planned : job.windows.plan.end ≡ job.terms.size
  pub handed : job.windows.plan.slices ≡ []
  pub heard : job.asked ≡ false
  pub rows : now.rows ≡ []

-- each position counts as heard
abbrev pub anywhere : ℕ → Bool
anywhere p = true

-- A copy that is so far has this job.
pub record IsJob (job : Seen) (way : Way) (now : board.Seen) : Type 0 where
  pub size : way.size ≡ Some job.terms.size
  pub how : way.how ≡ job.terms.how
  pub writes : now.how ≡ job.terms.how
  pub ends : job.windows.size ≡ job.terms.size
  pub cells : job.windows.plan.cells ≡ cells_of job.terms
  pub planned : windows.IsPlanned job.windows way.known.zero way.slices
  pub grain : job.windows.grain ≡ job.terms.grain
  pub spared : IsSpared job.windows (way.known.whole job.windows.grain) way.slices
  pub asked : way.asked ≡ (if job.asked then windows.wanted job.windows else None)
  pub heard : IsHeardTo job.windows anywhere
  pub reached : IsToldTo job.windows way.known.reach
  pub over : job.is_parting ≡ true → IsOver job now

-- A copy whose file made some changes is further on its way: the file made more behind them, and took their bytes.
pub record IsFurther (file : ℕ) (made : List Request) (way : Way) (job' : Seen) (now now' : board.Seen) (held held' : List (Held Ticket)) (old new : Option Shelf) (taken taken' : ℕ) : Type 0 where
  pub way' : Way
  pub more : List Request
  pub one : AreOfOne way way'
  pub job : IsJob job' way' now'
  pub on : (calls : List wire.Call) → IsUnderWay (ToFile made) way now calls held → IsUnderWay (ToFile (made ++ more)) way' now' calls held'
  -- until its connections part, each request is on the connection that its slice is bound to
  pub bound : job'.is_parting ≡ false → (calls : List wire.Call) → IsBound true (ToFile made) way now calls held → IsBound true (ToFile (made ++ more)) way' now' calls held'
  pub touched : Touches file (MadeMore made more) old new
  pub took : RoseBy (bytes_of changes more) taken taken'

-- A job that is done without calls on the wires keeps a copy on its way, wherever on it the copy was, and whatever its file had made.
pub record Acts (file : ℕ) (job job' : Seen) (now now' : board.Seen) (held held' : List (Held Ticket)) (old new : Option Shelf) (taken taken' : ℕ) : Type 0 where
  pub stand : Stand held → Stand held'
  pub on : (made : List Request) (way : Way) → IsJob job way now → IsFurther file made way job' now now' held held' old new taken taken'
  pub parts : job.is_parting ≡ true → job'.is_parting ≡ true

-- For each connection it counts how many slices that are begun and not over are bound to it, on none more than the limit divided by their number, rounded up.
abbrev pub HasDealt : Seen → board.Seen → Type 0
HasDealt job now = IsDealt job.terms.limit job.terms.sides.source job.bound (on_source now.rows)

-- A step of a job leaves it so.
pub record Spreads (old new : Seen) (now now' : board.Seen) : Type 0 where
  pub on : HasDealt old now → HasDealt new now'

-- What it has to do between two turns.

-- Extents are to be asked for: none are awaited, a range is wanted, and a window is under way, or fewer slices are planned and not over than may be under way.
pub record AreToAsk (job : Seen) (now : board.Seen) : Type 0 where
  pub unasked : job.asked ≡ false
  pub wanted : is_some (windows.wanted job.windows) ≡ true
  pub few : (job.windows.plan.end < job.windows.at) ⊎ (unfinished job.windows now < job.terms.limit)

-- Nothing, until something comes: nothing came that was not looked at, so that each slice which is begun has a request unanswered; no extents are to be asked for, and where windows are left a
-- range is wanted; no slice can be begun, and not all is over.
pub record HasNothingToDo (job : Seen) (now : board.Seen) : Type 0 where
  pub came : now.came ≡ []
  pub requests : busy now.rows ≡ length now.rows
  pub wanted : IsWantedOf job.windows
  pub untold : job.asked ≡ true → now.mapped ≡ false
  pub asked : ¬ AreToAsk job now
  pub begun : length now.rows < job.terms.limit → length job.windows.plan.slices ≡ 0
  pub left : ¬ IsOver job now

-- So nothing hangs: what has nothing to do awaits a request of a slice, or extents.
abbrev pub NothingHangs : Type 0
NothingHangs = (job : Seen) (way : Way) (now : board.Seen) → IsJob job way now → HasNothingToDo job now → 0 < job.terms.limit → (0 < busy now.rows) ⊎ AreAwaited job.asked now

-- Bridges between the steps of a job.

-- What was settled of a copy holds of its windows, and the export has connections, to which slices are bound.
pub record IsSettled (terms : Terms) (planned : windows.Seen) (bound : List ℕ) (connections : ℕ) : Type 0 where
  pub size : planned.size ≡ terms.size
  pub zeros : planned.plan.cells.zeros ≡ not terms.how.skip
  pub many : length bound ≡ connections
  pub some : 0 < connections

-- A copy whose file made some changes goes on: the file made more behind them, and took their bytes.
pub record GoesOn (file : ℕ) (made : List Request) (way way' : Way) (now now' : board.Seen) (held held' : List (Held Ticket)) (old new : Option Shelf) (taken taken' : ℕ) : Type 0 where
  pub more : List Request
  pub on : (calls : List wire.Call) → IsUnderWay (ToFile made) way now calls held → IsUnderWay (ToFile (made ++ more)) way' now' calls held'
  pub bound : (calls : List wire.Call) → IsBound true (ToFile made) way now calls held → IsBound true (ToFile (made ++ more)) way' now' calls held'
  pub touched : Touches file (MadeMore made more) old new
  pub took : RoseBy (bytes_of changes more) taken taken'

-- A slice began: it is asked of the export, or the file made its first change, wherever on its way the copy was, and whatever its file had made.
pub record Begins (file : ℕ) (slice : Slice) (now now' : board.Seen) (held held' : List (Held Ticket)) (old new : Option Shelf) (taken taken' : ℕ) : Type 0 where
  pub stand : Stand held → Stand held'
  pub on : (made : List Request) (way : Way) → way.how ≡ now.how → GoesOn file made way (with_slices (slice ∷ []) way) now now' held held' old new taken taken'

-- the extents were heard that had been asked for
abbrev pub with_heard : List Extent → Way → Way
with_heard told way = record way {
  known = record {
    zero = λ p. way.known.zero p || windows.zero_heard way.asked told p;
    whole = λ block p. way.known.whole block p || whole_heard block way.asked told p;
    reach = λ p. way.known.reach p || told_heard way.asked told p;
  };
  asked = None;
}

-- extents of this range are asked for
abbrev pub with_asked : ℕ × ℕ → Way → Way
with_asked range way = record way { asked = Some range }

-- One slice more is bound to the connection to which the fewest are.
pub record BindsOne (counts counts' : List ℕ) (rows rows' : List (ℕ × Row)) : Type 0 where
  pub source : ℕ
  pub fewest : IsFewest counts source
  pub counted : counts' ≡ slice_set counts source (risen (slice_index counts source) 1)
  pub bound : on_source rows' ≡ on_source rows ++ source ∷ []
