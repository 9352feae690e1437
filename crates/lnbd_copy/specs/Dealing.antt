-- What is asked of the connections of a copy: the first request of a slice, and what slices that go on ask for.
use Rattle.std.specs.Prelude.{◌≡◌, ℕ, Bool, true, false, List, ◌++◌, length}
use Rattle.lnbd_handle.specs.Issues.{read_of}
use Rattle.lnbd_history.specs.Commands.{Command}
use Rattle.lnbd_plan.specs.declared.grid.Slice.{Slice}
use Rattle.lnbd_poll.specs.Held.{Held}
use Rattle.lnbd_board.specs.declared.ask.Ask.{Ask}
use Rattle.lnbd_board.specs.declared.ask.Ask.TheVariants as ask
use Rattle.lnbd_board.specs.declared.how.How.{How}
use Rattle.lnbd_board.specs.declared.ticket.Ticket.{Ticket}
use Rattle.lnbd_board.specs.declared.ticket.Ticket.TheVariants as ticket
use Rattle.lnbd_board.specs.Files as board
use Rattle.lnbd_course.specs.Orders.{command_of}
use Rattle.lnbd_conduct.specs.declared.sides.Sides.{Sides}
use Rattle.lnbd_copy.specs.Asked.{IsAsked}
use Rattle.lnbd_copy.specs.Way.{Keeps}
use Rattle.lnbd_conduct.specs.Sides.{connection_of, is_source}
use Rattle.lnbd_copy.specs.Windows as windows

-- This connection of the source, or else of the destination, was asked the command.
pub record IsAskedOf (sides : Sides) (source : Bool) (connection : ℕ) (command : Command Ticket) (old new : List (Held Ticket)) : Type 0 where
  pub index : ℕ
  pub side : is_source sides index ≡ source
  pub here : connection_of sides index ≡ connection
  pub asked : IsAsked index command old new

-- This connection of the source was asked to read so many bytes of a slice, into some buffer.
pub record IsAskedToRead (sides : Sides) (connection n offset count : ℕ) (old new : List (Held Ticket)) : Type 0 where
  pub bytes : List ℕ
  pub many : length bytes ≡ count
  pub asked : IsAskedOf sides true connection (read_of bytes offset (ticket.Slice n) 0) old new

-- The first request of a slice was asked of its connection, which is this one of the source, or this one of the destination.
abbrev pub IsAskedFirst : Sides → (source destination n : ℕ) → Ask → (old new : List (Held Ticket)) → Type 0
IsAskedFirst sides source destination n (ask.Read offset buf) old new = IsAskedToRead sides source n offset (length buf) old new
IsAskedFirst sides source destination n (ask.Change one) old new = IsAskedOf sides false destination (command_of n one) old new

-- Slices of a board went on: no other was begun, and nothing was told.
abbrev pub HasGoneOn : (old new : board.Seen) → Type 0
HasGoneOn old new = new ≡ record old { rows = new.rows; came = new.came; written = new.written; zeroed = new.zeroed }

-- Slices of a board were begun, and nothing was told.
abbrev pub HasBegun : (old new : board.Seen) → Type 0
HasBegun old new = new ≡ record old { begun = new.begun; rows = new.rows; read = new.read; written = new.written; zeroed = new.zeroed }

-- Planned slices were begun, as they come in the plan, and all else of the windows is as it was.
pub record Begins (how : How) (sides : Sides) (old new : windows.Seen) (now now' : board.Seen) (held held' : List (Held Ticket)) : Type 0 where
  pub more : List Slice
  pub handed : old.plan.slices ≡ more ++ new.plan.slices
  pub others : new ≡ record old { plan = record old.plan { slices = new.plan.slices } }
  pub begun : HasBegun now now'
  pub keeps : Keeps how sides more now now' held held'
