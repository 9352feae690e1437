-- What is under way in a copy from a file to an export, and what its steps leave.
use Rattle.std.specs.Prelude.{◌≡◌, ◌≢◌, ◌≤◌, ℕ, ◌+◌, Bool, true, false, List, [], not, Option, Some, None}
use Rattle.lnbd_link.specs.Call as wire
use Rattle.lnbd_model.specs.Kind.{is_read}
use Rattle.lnbd_poll.specs.Held.{Held}
use Rattle.lnbd_board.specs.declared.ticket.Ticket.{Ticket}
use Rattle.lnbd_board.specs.Files as board
use Rattle.lnbd_board.specs.Requests.{Request}
use Rattle.lnbd_course.specs.Counted.{bytes_of}
use Rattle.lnbd_course.specs.Far.{FromFile}
use Rattle.lnbd_conduct.specs.declared.terms.Terms.{Terms}
use Rattle.lnbd_conduct.specs.Slices.{cells_of}
use Rattle.lnbd_copy.specs.Way.{Stand}
use Rattle.lnbd_copy.specs.Windows as windows
use Rattle.lnbd_store.specs.Shelf.{Shelf}
use Rattle.lnbd_touched.specs.Grown.{RoseBy}
use Rattle.lnbd_touched.specs.Touches.{Touches}
use Rattle.lnbd_connections.specs.Bound.{IsBound}
use Rattle.lnbd_connections.specs.Way.{IsUnderWay, Way}
use Rattle.lnbd_copyfile.specs.declared.from_file_job.Phase.{Phase}
use Rattle.lnbd_copyfile.specs.declared.from_file_job.Phase.TheVariants.{Copying, Parting}
use Rattle.lnbd_copyfile.specs.FlushedLast.{HasRested}
use Rattle.lnbd_copyfile.specs.Holes.{ToldHoles}
use Rattle.lnbd_copyfile.specs.Jobs.{AreOfOne}
use Rattle.lnbd_copyfile.specs.Loading.{ToldMore}

-- What is seen of it.
pub record Seen : Type 0 where
  pub terms : Terms
  pub windows : windows.Seen
  pub phase : Phase
  -- how many slices are bound to each connection
  pub bound : List ℕ

-- All slices of the file are over.
pub record IsOver (job : Seen) (now : board.Seen) : Type 0 where
  pub planned : job.windows.plan.end ≡ job.terms.size
  pub handed : job.windows.plan.slices ≡ []
  pub rows : now.rows ≡ []

-- A copy that is so far has this job: the export reaches as far as the file at least, and the file is planned up to a place, where these positions may count as zero.
pub record IsJob (job : Seen) (zero : ℕ → Bool) (way : Way) (now : board.Seen) : Type 0 where
  pub room : ℕ
  pub size : way.size ≡ Some room
  pub fits : job.terms.size ≤ room
  pub how : way.how ≡ job.terms.how
  pub writes : now.how ≡ job.terms.how
  pub cells : job.windows.plan.cells ≡ cells_of job.terms
  pub planned : windows.IsPlanned job.windows zero way.slices
  pub ends : job.windows.size ≡ job.terms.size
  pub unasked : way.asked ≡ None
  -- a flush is asked for once, where it is wanted, behind all else; and the connections part only once it was answered
  pub unwanted : job.terms.flush ≡ false → now.flushing ≡ false
  pub unflushed : job.phase ≡ Copying → now.flushing ≡ false
  pub over : job.phase ≢ Copying → IsOver job now
  pub flushed : job.phase ≡ Parting → job.terms.flush ≡ true → now.flushed ≡ true

-- What was settled of a copy holds of its windows.
pub record IsSettled (terms : Terms) (planned : windows.Seen) : Type 0 where
  pub size : planned.size ≡ terms.size
  pub zeros : planned.plan.cells.zeros ≡ not terms.how.skip

-- A copy whose file was read so far, and told these holes, is further on its way: more was read behind that, which the store gave, and more holes were told, and the file is as it was.
pub record IsFurther (file : ℕ) (read : List Request) (zero : ℕ → Bool) (way : Way) (job' : Seen) (now now' : board.Seen) (held held' : List (Held Ticket)) (old new : Option Shelf) (given given' : ℕ) : Type 0 where
  pub way' : Way
  pub read' : List Request
  pub zero' : ℕ → Bool
  pub one : AreOfOne way way'
  pub job : IsJob job' zero' way' now'
  pub on : (calls : List wire.Call) → IsUnderWay (FromFile read) way now calls held → IsUnderWay (FromFile read') way' now' calls held'
  -- until its connections part, each request is on the connection that its slice is bound to
  pub bound : job'.phase ≢ Parting → (calls : List wire.Call) → IsBound false (FromFile read) way now calls held → IsBound false (FromFile read') way' now' calls held'
  pub touched : Touches file (ToldMore read read') old new
  pub holes : Touches file (ToldHoles zero zero') old new
  pub count : ℕ
  pub more : bytes_of is_read read' ≡ bytes_of is_read read + count
  pub gave : RoseBy count given given'

-- A job that is done without calls on the wires keeps a copy on its way, wherever on it the copy was, and whatever of its file was read.
pub record Acts (file : ℕ) (job job' : Seen) (now now' : board.Seen) (held held' : List (Held Ticket)) (old new : Option Shelf) (given given' : ℕ) : Type 0 where
  pub stand : Stand held → Stand held'
  pub on : (read : List Request) (zero : ℕ → Bool) (way : Way) → IsJob job zero way now → IsFurther file read zero way job' now now' held held' old new given given'
  pub parts : job.phase ≡ Parting → job'.phase ≡ Parting
  -- it comes to rest once all slices are over, before the flush is asked for, and stays so
  pub rests : (read : List Request) (zero : ℕ → Bool) (way : Way) (calls : List wire.Call) → IsJob job zero way now → IsUnderWay (FromFile read) way now calls held →
      HasRested job.phase job.terms.size way.at now calls → HasRested job'.phase job'.terms.size way.at now' calls

-- So it does where nothing is begun or read, whatever the file is.
pub record Concludes (job job' : Seen) (now now' : board.Seen) (held held' : List (Held Ticket)) : Type 0 where
  pub on : (file : ℕ) (shelf : Option Shelf) (given : ℕ) → Acts file job job' now now' held held' shelf shelf given given
