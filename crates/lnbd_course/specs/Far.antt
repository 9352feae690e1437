-- A copy of which one side is no export, but a file. A file has no links, and what is asked of it is asked and answered in one step: so nobody keeps its requests,
-- and what stands speaks of them as of the slices that were begun.
use Rattle.std.specs.Prelude.{◌≡◌, ℕ, ◌+◌, true, List, [], ◌∷◌, length, None}
use Rattle.lnbd_history.specs.Commands.{Command}
use Rattle.lnbd_history.specs.Commands as commands
use Rattle.lnbd_asked.specs.Link.{Nobody}
use Rattle.lnbd_plan.specs.declared.grid.Slice.{Slice}
use Rattle.lnbd_board.specs.declared.how.How.{How}
use Rattle.lnbd_board.specs.declared.ticket.Ticket.{Ticket}
use Rattle.lnbd_board.specs.Files as board
use Rattle.lnbd_board.specs.Requests.{Request}
use Rattle.lnbd_board.specs.Rows.{Stands}
use Rattle.lnbd_onesided.specs.Desk.{done_more, no_link}
use Rattle.lnbd_tracks.specs.Laws.{IsDone}
use Rattle.lnbd_tracks.specs.Tracks.{Histories, AllTrack}
use Rattle.lnbd_course.specs.Counted.{IsCounted}
use Rattle.lnbd_course.specs.Flushed.{HasDoneFlush}
use Rattle.lnbd_course.specs.Laws.{AsksSource, AsksDestination}

-- The file is the source, or the destination; and this was asked of it, all of which is done.
pub data Far : Type 0 where
  FromFile : List Request → Far
  ToFile : List Request → Far

abbrev pub done_by : Far → List Request
done_by (FromFile done) = done
done_by (ToFile done) = done

-- one request more of the file, for the slice of a number, which came to these bytes; its cookie is how many there were before
abbrev pub with_done : (n : ℕ) → Command Nobody → (bytes : List ℕ) → Far → Far
with_done n command bytes (FromFile done) = FromFile (done_more (length done) n command bytes done)
with_done n command bytes (ToFile done) = ToFile (done_more (length done) n command bytes done)

-- what both sides were asked, where the export was asked this
abbrev pub source_of : Far → (asked : List Request) → List Request
source_of (FromFile done) asked = done
source_of (ToFile done) asked = asked

abbrev pub destination_of : Far → (asked : List Request) → List Request
destination_of (FromFile done) asked = asked
destination_of (ToFile done) asked = done

-- done, on no link, and each under the cookie that follows the one before
abbrev pub AreNumbered : (first : ℕ) → List Request → Type 0
AreNumbered first [] = Unit {0}
AreNumbered first (r ∷ rs) = ((r.link ≡ no_link) × (r.cookie ≡ first) × IsDone r.said.outcome) × AreNumbered (first + 1) rs

-- What the export was asked, by the histories of all handles, and what was asked of the file, is what the rows of the board say, if no error was told; the board counts
-- its bytes; and where it was told, and no error, that its flush was answered, a FLUSH of the destination is done.
pub record FarStood (far : Far) (how : How) (slices : List Slice) (now : board.Seen) (histories : Histories) : Type 0 where
  pub asked : List Request
  pub tracked : AllTrack histories asked
  pub numbered : AreNumbered 0 (done_by far)
  pub stands : now.error ≡ None → Stands how slices now.rows (source_of far asked) (destination_of far asked)
  pub counted : IsCounted now (source_of far asked) (destination_of far asked)
  pub flushed : now.error ≡ None → now.flushed ≡ true → HasDoneFlush (destination_of far asked)

-- with this command asked of the export the invariant of the copy stands, and the board counts it
abbrev pub AsksNear : Far → How → (command : commands.Command Ticket) → (slices slices' : List Slice) → (now now' : board.Seen) → Type 0
AsksNear (FromFile done) how command slices slices' now now' = AsksDestination how command slices slices' now now'
AsksNear (ToFile done) how command slices slices' now now' = AsksSource how command slices slices' now now'

-- and with this one asked of the file
abbrev pub AsksFar : Far → How → (command : commands.Command Ticket) → (slices slices' : List Slice) → (now now' : board.Seen) → Type 0
AsksFar (FromFile done) how command slices slices' now now' = AsksSource how command slices slices' now now'
AsksFar (ToFile done) how command slices slices' now now' = AsksDestination how command slices slices' now now'
