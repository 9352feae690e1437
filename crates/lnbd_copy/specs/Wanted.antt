-- A pause of a copy waits for something.
use Rattle.std.specs.Prelude.{◌≡◌, true}
use Rattle.lnbd_machine.specs.Machine.{Machine}
use Rattle.lnbd_machine.specs.Now.{direction_now, in_flight_now, state_now}
use Rattle.lnbd_poll.specs.Held.{is_wanting}
use Rattle.lnbd_board.specs.declared.ticket.Ticket.{Ticket}

-- A handle waits for its link.
abbrev pub IsWanting : Machine Ticket → Type 0
IsWanting handle = is_wanting (state_now handle.known) (in_flight_now handle.known) (direction_now handle.known) ≡ true
