-- A command that one of the handles of a copy took.
use Rattle.std.specs.Prelude.{◌≡◌, ℕ, List, Some, slice_get}
use Rattle.lnbd_history.specs.Commands.{Command}
use Rattle.lnbd_history.specs.Events.{Issue}
use Rattle.lnbd_asked.specs.Driven.{Spells}
use Rattle.lnbd_poll.specs.Held.{Held, AreAt}
use Rattle.lnbd_poll.specs.Seen.{Seen}
use Rattle.lnbd_drives.specs.Driving.{with_event}
use Rattle.lnbd_board.specs.declared.ticket.Ticket.{Ticket}
use Rattle.lnbd_course.specs.Taken.{without_buffer}

-- The handle of this index was asked the command, less the buffer that is read into, and the others are as they were; the command fits its request.
pub record WasAsked (index : ℕ) (command : Command Ticket) (seens : List (Seen Ticket)) (new : List (Held Ticket)) : Type 0 where
  pub seen : Seen Ticket
  pub there : slice_get seens index ≡ Some seen
  pub spells : Spells seen.history (Issue (without_buffer command))
  pub at : AreAt new (with_event index (Issue (without_buffer command)) seens)

-- So it is from wherever they stood.
pub record IsAsked (index : ℕ) (command : Command Ticket) (old new : List (Held Ticket)) : Type 0 where
  pub on : (seens : List (Seen Ticket)) → AreAt old seens → WasAsked index command seens new
