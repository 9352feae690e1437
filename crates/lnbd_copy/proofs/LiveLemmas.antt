-- Handles that are not dead are not when one of them is asked for the end of its connection, forgets what it noted, or is taken out.
use Rattle.std.proofs.Common.{◌≡◌, ℕ, zero, suc, ◌+◌, List, [], ◌∷◌, ◌++◌, drop, take}
use Rattle.lnbd_model.specs.declared.state.Cause.{Cause}
use Rattle.lnbd_model.specs.declared.state.State.TheVariants as state
use Rattle.lnbd_history.specs.Events.{Disconnect, Event, History}
use Rattle.lnbd_poll.specs.Seen.{Seen}
use Rattle.lnbd_drives.specs.Driving.{with_event}
use Rattle.lnbd_board.specs.declared.ticket.Ticket.{Ticket}
use Rattle.lnbd_conduct.specs.Driven.{IsAlive}
use Rattle.lnbd_copy.specs.Ready.{AllLive}

closing_dead : (why : Cause) → state.Closing ≡ state.Dead why → ⊥
closing_dead why e = cc

pub disconnect_lives : (before : History Ticket) → IsAlive before → IsAlive (Disconnect ∷ before)
disconnect_lives before alive why dead = closing_dead why dead

pub live_event : (event : Event Ticket) → ((before : History Ticket) → IsAlive before → IsAlive (event ∷ before)) → (index : ℕ) (seens : List (Seen Ticket)) → AllLive seens → AllLive (with_event index event seens)
live_event event lives index [] live = tt
live_event event lives zero (seen ∷ others) live = (lives seen.history live.0, live.1)
live_event event lives (suc index) (seen ∷ others) live = (live.0, live_event event lives index others live.1)

live_taken : (n : ℕ) (seens : List (Seen Ticket)) → AllLive seens → AllLive (take n seens)
live_taken zero [] live = tt
live_taken (suc n) [] live = tt
live_taken zero (seen ∷ others) live = tt
live_taken (suc n) (seen ∷ others) live = (live.0, live_taken n others live.1)

live_dropped : (n : ℕ) (seens : List (Seen Ticket)) → AllLive seens → AllLive (drop n seens)
live_dropped zero [] live = tt
live_dropped (suc n) [] live = tt
live_dropped zero (seen ∷ others) live = live
live_dropped (suc n) (seen ∷ others) live = live_dropped n others live.1

live_joined : (seens more : List (Seen Ticket)) → AllLive seens → AllLive more → AllLive (seens ++ more)
live_joined [] more live other = other
live_joined (seen ∷ others) more live other = (live.0, live_joined others more live.1 other)

pub live_without : (index : ℕ) (seens : List (Seen Ticket)) → AllLive seens → AllLive (take index seens ++ drop (index + 1) seens)
live_without index seens live = live_joined (take index seens) (drop (index + 1) seens) (live_taken index seens live) (live_dropped (index + 1) seens live)
