-- What the pauses of a copy wait for.
use Rattle.std.specs.Prelude.{◌≡◌, ◌≢◌, ℕ, List, Some, slice_get}
use Rattle.lnbd_model.specs.declared.state.State.TheVariants as state
use Rattle.lnbd_handle.specs.Histories.{ForEach}
use Rattle.lnbd_machine.specs.Machine.{Machine}
use Rattle.lnbd_history.specs.Answers.{direction_after, state_after}
use Rattle.lnbd_poll.specs.Held.{Held}
use Rattle.lnbd_board.specs.declared.ticket.Ticket.{Ticket}

-- Steps.

-- A handle may read, and where it asked for the end of its connection it has that to write still.
pub record IsUnparted (handle : Machine Ticket) : Type 0 where
  pub reads : ForEach handle (λ history. direction_after history ≢ 0)
  pub parts : ForEach handle (λ history. direction_after history ≡ 1 → state_after history ≢ state.Closing)

-- So it is with each handle that is held.
abbrev pub AreUnparted : List (Held Ticket) → Type 0
AreUnparted held = (index : ℕ) (one : Held Ticket) → slice_get held index ≡ Some one → IsUnparted one.handle
