-- The connections forget what they noted.
use Rattle.std.proofs.Common.{◌≡◌, ℕ, List, Some, refl, slice_get}
use Rattle.std.specs.Option.{option_map}
use Rattle.lnbd_handle.specs.Histories.{Adds, ForEach}
use Rattle.lnbd_history.specs.Events.{ClearLog}
use Rattle.lnbd_machine.specs.Machine.{Machine}
use Rattle.lnbd_poll.specs.Held.{Held}
use Rattle.lnbd_poll.specs.Lends.{with_handle}
use Rattle.lnbd_drives.specs.Driving.{with_event}
use Rattle.lnbd_board.specs.declared.ticket.Ticket.{Ticket}
use Rattle.lnbd_board.specs.Files as board
use Rattle.lnbd_copy.proofs.PartLemmas.{happens}
use Rattle.lnbd_connections.specs.Bound.{BindsStill}
use Rattle.lnbd_connections.specs.Steps.{Parts}
use Rattle.lnbd_connections.proofs.BoundWay.{bound_did}
use Rattle.lnbd_connections.proofs.WayLemmas.{way_did}

-- One of them does.
pub forgets_one : (now : board.Seen) (index : ℕ) (held : List (Held Ticket)) (handle handle' : Machine Ticket) → ForEach handle (Adds ClearLog handle') →
    option_map (λ held. held.handle) (slice_get held index) ≡ Some handle → Parts now held (with_handle held index handle')
forgets_one now index held handle handle' adds is = record {
  stand = λ s. record { seens = with_event index ClearLog s.seens; at = (happens handle handle' ClearLog index held s.seens adds is s.at).at };
  on = λ far way calls on.
      way_did far way now calls held on (with_handle held index handle') index ClearLog (happens handle handle' ClearLog index held on.seens adds is on.at)
      (record { inward = refl; unasked = refl; still = refl; spelled = tt; mode = refl }) refl;
}

pub forgets_one_still : (now : board.Seen) (index : ℕ) (held : List (Held Ticket)) (handle handle' : Machine Ticket) → ForEach handle (Adds ClearLog handle') →
    option_map (λ held. held.handle) (slice_get held index) ≡ Some handle → BindsStill now held (with_handle held index handle')
forgets_one_still now index held handle handle' adds is = record {
  on = λ source far way calls on.
      bound_did source far way now calls held on (with_handle held index handle') index ClearLog (happens handle handle' ClearLog index held on.seens adds is on.at)
      (record { inward = refl; unasked = refl; still = refl; spelled = tt; mode = refl }) refl;
}

pub still_none : (now : board.Seen) (held : List (Held Ticket)) → BindsStill now held held
still_none now held = record { on = λ source far way calls on. on }

pub still_then : (now : board.Seen) (held held2 held3 : List (Held Ticket)) → BindsStill now held held2 → BindsStill now held2 held3 → BindsStill now held held3
still_then now held held2 held3 one two = record { on = λ source far way calls on. two.on source far way calls (one.on source far way calls on) }
