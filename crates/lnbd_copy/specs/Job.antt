-- What is under way in a copy whose connections stand.
use Rattle.std.specs.Prelude.{◌≡◌, ◌≢◌, ◌≤◌, ◌||◌, ℕ, ◌+◌, Bool, true, false, List, [], not, Option, Some, None, is_some, if◌then◌else◌}
use Rattle.lnbd_link.specs.Call as wire
use Rattle.lnbd_model.specs.declared.export.Extent.{Extent}
use Rattle.lnbd_poll.specs.Held.{Held}
use Rattle.lnbd_board.specs.Files as board
use Rattle.lnbd_board.specs.declared.ticket.Ticket.{Ticket}
use Rattle.lnbd_copy.specs.declared.job.Phase.{Phase}
use Rattle.lnbd_copy.specs.declared.job.Phase.TheVariants.{Copying, Flushing, Parting}
use Rattle.lnbd_conduct.specs.declared.sides.Sides.{Sides}
use Rattle.lnbd_conduct.specs.declared.terms.Terms.{Terms}
use Rattle.lnbd_copy.specs.Bound.{Bound}
use Rattle.lnbd_copy.specs.Heard.{IsHeardTo, passed_heard}
use Rattle.lnbd_conduct.specs.Links.{once_if}
use Rattle.lnbd_copy.specs.Reached.{IsToldTo, told_heard}
use Rattle.lnbd_copy.specs.Spared.{IsSpared, whole_heard}
use Rattle.lnbd_copy.specs.Way.{Way, IsOn, Stand}
use Rattle.lnbd_copy.specs.Windows as windows
use Rattle.lnbd_conduct.specs.Slices.{cells_of}

pub record Seen : Type 0 where
  pub terms : Terms
  pub windows : windows.Seen
  -- extents were asked for, and not heard yet
  pub asked : Bool
  pub phase : Phase
  -- how many slices are bound to each connection
  pub bound : Bound

-- the connections part
abbrev pub is_parting : Phase → Bool
is_parting Copying = false
is_parting Flushing = false
is_parting Parting = true

-- All slices of all windows are over.
pub record IsOver (job : Seen) (now : board.Seen) : Type 0 where
  pub planned : job.windows.plan.end ≡ job.terms.size
  pub handed : job.windows.plan.slices ≡ []
  pub heard : job.asked ≡ false
  pub rows : now.rows ≡ []

-- All was asked and done when the copy's board was another, to which nothing was added since.
pub record RestsSince (rested : Option board.Seen) (now : board.Seen) : Type 0 where
  pub was : board.Seen
  pub is : rested ≡ Some was
  pub error : now.error ≡ None → was.error ≡ None
  pub read : now.read ≡ was.read
  pub written : now.written ≡ was.written
  pub zeroed : now.zeroed ≡ was.zeroed

-- Extents were asked for once at most for each byte before the place where asking goes on, and once more while they are not heard: then a range is wanted.
pub record AsksOnward (job : Seen) (queries : ℕ) : Type 0 where
  pub few : queries ≤ job.windows.at + once_if job.asked
  pub some : job.asked ≡ true → is_some (windows.wanted job.windows) ≡ true
  pub inside : job.windows.at ≤ job.windows.size

-- A copy that is so far has this job.
pub record IsJob (job : Seen) (way : Way) (now : board.Seen) : Type 0 where
  pub size : way.size ≡ Some job.terms.size
  pub how : way.how ≡ job.terms.how
  pub writes : now.how ≡ job.terms.how
  pub sides : way.sides ≡ job.terms.sides
  pub ends : job.windows.size ≡ job.terms.size
  pub cells : job.windows.plan.cells ≡ cells_of job.terms
  pub planned : windows.IsPlanned job.windows way.zero way.slices
  pub grain : job.windows.grain ≡ job.terms.grain
  pub spared : IsSpared job.windows (way.whole job.windows.grain) way.slices
  pub asked : way.asked ≡ (if job.asked then windows.wanted job.windows else None)
  pub over : job.phase ≢ Copying → IsOver job now
  pub unwanted : job.terms.flush ≡ false → now.flushing ≡ false
  pub unflushed : job.phase ≡ Copying → now.flushing ≡ false
  pub rests : job.phase ≢ Copying → RestsSince way.rested now
  -- the connections part only once the flush that is wanted was answered
  pub flushed : job.phase ≡ Parting → job.terms.flush ≡ true → now.flushed ≡ true
  pub heard : IsHeardTo job.windows (way.heard job.windows.grain)
  pub reached : IsToldTo job.windows way.reach
  pub parts : way.ended ≡ is_parting job.phase
  pub wants : way.flush ≡ job.terms.flush
  pub onward : AsksOnward job way.queries

-- What was settled of a copy holds of its windows and of the connections that slices are bound to.
pub record IsSettled (terms : Terms) (planned : windows.Seen) (sides : Sides) : Type 0 where
  pub size : planned.size ≡ terms.size
  pub cells : planned.plan.cells ≡ cells_of terms
  pub zeros : planned.plan.cells.zeros ≡ not terms.how.skip
  pub bound : sides ≡ terms.sides

-- Two ways are of one copy.
pub record AreOfOne (way way' : Way) : Type 0 where
  pub from : way'.from ≡ way.from
  pub to : way'.to ≡ way.to
  pub how : way'.how ≡ way.how
  pub sides : way'.sides ≡ way.sides
  pub extents : way'.extents ≡ way.extents

-- A copy that was on its way is further on it, and has this job.
pub record IsFurther (way : Way) (job : Seen) (now now' : board.Seen) (held held' : List (Held Ticket)) : Type 0 where
  pub way' : Way
  pub one : AreOfOne way way'
  pub job' : IsJob job way' now'
  pub on : (calls : List wire.Call) → IsOn way now calls held → IsOn way' now' calls held'

-- A job that is done without calls on the wires keeps a copy on its way, wherever on it the copy was. Handles that stood for histories do so still.
pub record Acts (job job' : Seen) (now now' : board.Seen) (held held' : List (Held Ticket)) : Type 0 where
  pub stand : Stand held → Stand held'
  pub on : (way : Way) → IsJob job way now → IsFurther way job' now now' held held'

-- the extents were heard that had been asked for
abbrev pub with_heard : List Extent → Way → Way
with_heard told way = record way { zero = λ p. way.zero p || windows.zero_heard way.asked told p; whole = λ block p. way.whole block p || whole_heard block way.asked told p; heard = λ grain p. way.heard grain p || passed_heard grain way.asked told p; asked = None; reach = λ p. way.reach p || told_heard way.asked told p }

-- extents of this range are asked for
abbrev pub with_asked : Option (ℕ × ℕ) → Way → Way
with_asked range way = record way { asked = range; queries = way.queries + 1 }
