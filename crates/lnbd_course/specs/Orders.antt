-- What the board asks, as commands of its handles.
use Rattle.std.specs.Prelude.{◌≡◌, ℕ, List, [], ◌∷◌, ◌++◌, length, Some, None}
use Rattle.lnbd_handle.specs.Issues.{read_of, write_of, zero_of}
use Rattle.lnbd_history.specs.Commands as commands
use Rattle.lnbd_plan.specs.declared.grid.Slice.{Slice}
use Rattle.lnbd_board.specs.declared.ask.Ask.{Ask}
use Rattle.lnbd_board.specs.declared.ask.Ask.TheVariants as ask
use Rattle.lnbd_board.specs.declared.ask.Change.{Change}
use Rattle.lnbd_board.specs.declared.ask.Change.TheVariants as change
use Rattle.lnbd_board.specs.declared.how.How.{How}
use Rattle.lnbd_board.specs.declared.ticket.Ticket.{Ticket}
use Rattle.lnbd_board.specs.declared.ticket.Ticket.TheVariants as ticket
use Rattle.lnbd_board.specs.Asks.{Begins, Goes, Keeps}
use Rattle.lnbd_board.specs.Files as board
use Rattle.lnbd_board.specs.Requests.{Request}
use Rattle.lnbd_course.specs.Counted.{CountsFirst, CountsNext}
use Rattle.lnbd_course.specs.Laws.{AsksSource, AsksDestination}
use Rattle.lnbd_course.specs.Taken.{without_buffer}

-- the command that a change is, with the ticket of its slice
abbrev pub command_of : ℕ → Change → commands.Command Ticket
command_of n (change.Write offset bytes) = write_of bytes offset (ticket.Slice n) 0
command_of n (change.Zero offset size flags) = zero_of size offset (ticket.Slice n) flags

-- With the first request of a slice the invariant stands: a read of the source into whatever buffer of this size, or a change of the destination.
abbrev pub AsksFirst : How → (n : ℕ) → Ask → (slices slices' : List Slice) → (now now' : board.Seen) → Type 0
AsksFirst how n (ask.Read offset buf) slices slices' now now' = (bytes : List ℕ) → length bytes ≡ length buf → AsksSource how (without_buffer (read_of bytes offset (ticket.Slice n) 0)) slices slices' now now'
AsksFirst how n (ask.Change one) slices slices' now now' = AsksDestination how (without_buffer (command_of n one)) slices slices' now now'

-- Where a slice begins, what the board says is to be asked first;
abbrev pub BeginningAsks : Type 0
BeginningAsks = (how : How) (slice : Slice) (n : ℕ) (one : Ask) (slices : List Slice) (now now' : board.Seen) → length slices ≡ n → (now'.error ≡ None → now.error ≡ None) →
    CountsFirst one now now' → Begins how slice n one now.rows now'.rows → AsksFirst how n one slices (slices ++ slice ∷ []) now now'

-- where a row goes on, the change that it asks for;
abbrev pub GoingAsks : Type 0
GoingAsks = (how : How) (n : ℕ) (one : Change) (slices : List Slice) (now now' : board.Seen) → (now'.error ≡ None → now.error ≡ None) → CountsNext one now now' → Goes how n (Some one) now.rows now'.rows →
    AsksDestination how (without_buffer (command_of n one)) slices slices now now'

-- and where it is over, nothing.
abbrev pub OverAsksNothing : Type 0
OverAsksNothing = (how : How) (n : ℕ) (now now' : board.Seen) → Goes how n None now.rows now'.rows → (source destination : List Request) → Keeps how now.rows source destination now'.rows source destination
