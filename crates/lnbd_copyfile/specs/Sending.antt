-- The slices of a copy from a file, step by step: each is read as it begins, unless it counts as zero, and what it asks for goes to the export. Bridges, which no claim names.
use Rattle.std.specs.Prelude.{◌≡◌, false, ℕ, ◌+◌, List, ◌++◌, Option}
use Rattle.lnbd_link.specs.Call as wire
use Rattle.lnbd_model.specs.Kind.{is_read}
use Rattle.lnbd_plan.specs.declared.grid.Slice.{Slice}
use Rattle.lnbd_poll.specs.Held.{Held}
use Rattle.lnbd_board.specs.declared.how.How.{How}
use Rattle.lnbd_board.specs.declared.ticket.Ticket.{Ticket}
use Rattle.lnbd_board.specs.Files as board
use Rattle.lnbd_board.specs.Requests.{Request}
use Rattle.lnbd_course.specs.Counted.{bytes_of}
use Rattle.lnbd_course.specs.Far.{FromFile}
use Rattle.lnbd_copy.specs.Way.{Stand}
use Rattle.lnbd_copy.specs.Windows as windows
use Rattle.lnbd_store.specs.Shelf.{Shelf}
use Rattle.lnbd_touched.specs.Grown.{RoseBy}
use Rattle.lnbd_touched.specs.Touches.{Touches}
use Rattle.lnbd_connections.specs.Bound.{IsBound}
use Rattle.lnbd_connections.specs.Way.{IsUnderWay, Way, with_slices}
use Rattle.lnbd_copyfile.specs.Loading.{BeginsSlice, ToldMore}

-- With these slices begun a copy that writes so is on its way still, whose file was read so far: more was read behind that, which the store gave, and the file is as it was.
pub record HasSent (file : ℕ) (how : How) (more : List Slice) (read : List Request) (now now' : board.Seen) (held held' : List (Held Ticket)) (old new : Option Shelf) (given given' : ℕ) : Type 0 where
  pub read' : List Request
  pub on : (way : Way) (calls : List wire.Call) → way.how ≡ how → IsUnderWay (FromFile read) way now calls held → IsUnderWay (FromFile read') (with_slices more way) now' calls held'
  -- each request stays on the connection that its slice is bound to
  pub bound : (way : Way) (calls : List wire.Call) → way.how ≡ how → IsBound false (FromFile read) way now calls held → IsBound false (FromFile read') (with_slices more way) now' calls held'
  pub touched : Touches file (ToldMore read read') old new
  pub count : ℕ
  pub bytes : bytes_of is_read read' ≡ bytes_of is_read read + count
  pub gave : RoseBy count given given'

-- Planned slices were begun, as they come in the plan, and what came for slices was asked of the export; so it is whatever was read before.
pub record Sends (file : ℕ) (planned planned' : windows.Seen) (now now' : board.Seen) (held held' : List (Held Ticket)) (old new : Option Shelf) (given given' : ℕ) : Type 0 where
  pub more : List Slice
  pub handed : planned.plan.slices ≡ more ++ planned'.plan.slices
  pub others : planned' ≡ record planned { plan = record planned.plan { slices = planned'.plan.slices } }
  pub how : now'.how ≡ now.how
  pub flushing : now'.flushing ≡ now.flushing
  pub stand : Stand held → Stand held'
  pub on : (read : List Request) → HasSent file now.how more read now now' held held' old new given given'

-- What came for slices was asked of the export, and none was begun.
pub record PassesOn (now now' : board.Seen) (held held' : List (Held Ticket)) : Type 0 where
  pub on : (file : ℕ) (planned : windows.Seen) (shelf : Option Shelf) (given : ℕ) → Sends file planned planned now now' held held' shelf shelf given given

-- A slice began, bound to some connection of the export.
pub record BeginsOne (file : ℕ) (slice : Slice) (now now' : board.Seen) (held held' : List (Held Ticket)) (old new : Option Shelf) (given given' : ℕ) : Type 0 where
  pub destination : ℕ
  pub begins : BeginsSlice file slice 0 destination now now' held held' old new given given'
