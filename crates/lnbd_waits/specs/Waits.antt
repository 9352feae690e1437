-- Turns over one handle and its link until what is awaited is there.
use Rattle.std.specs.Prelude.{◌≡◌, ◌||◌, ◌==◌, not, ℕ, Bool, true, false, List, [], ◌∷◌, ◌++◌, Option, Some, None, Result, Ok, Err}
use Rattle.lnbd_model.specs.declared.state.State.{State}
use Rattle.lnbd_model.specs.declared.state.State.TheVariants as state
use Rattle.lnbd_callbacks.specs.Calls.{Call}
use Rattle.lnbd_history.specs.Events.{History}
use Rattle.lnbd_history.specs.Answers.{state_after, in_flight_after, direction_after}
use Rattle.lnbd_link.specs.Call as wire
use Rattle.lnbd_link.specs.Call.{Pause}
use Rattle.lnbd_poll.specs.States.{is_negotiating}
use Rattle.lnbd_poll.specs.declared.noticed.Noticed.{Noticed}
use Rattle.lnbd_poll.specs.declared.noticed.Noticed.TheVariants as noticed
use Rattle.lnbd_poll.specs.Seen.{Seen}
use Rattle.lnbd_link.specs.declared.wires.Want.{Want}
use Rattle.lnbd_poll.specs.Held.{Held, AreAt}
use Rattle.lnbd_poll.specs.Turns.{Blames, TurnsOne, is_short}
use Rattle.lnbd_waits.specs.declared.waiting.Awaited.{Awaited}
use Rattle.lnbd_waits.specs.declared.waiting.Awaited.TheVariants as awaited
use Rattle.lnbd_waits.specs.declared.waiting.Halt.{Halt}
use Rattle.lnbd_waits.specs.declared.waiting.Halt.TheVariants as halt

-- the one handle that is held stands there
abbrev pub Holds : {K : Type 0} → List (Held K) → Seen K → Type 0
Holds all seen = AreAt all (seen ∷ [])

abbrev pub is_closing : State → Bool
is_closing state.Created = false
is_closing state.Negotiating = false
is_closing state.OptMode = false
is_closing state.Ready = false
is_closing state.Closing = true
is_closing state.Closed = false
is_closing (state.Dead cause) = false

-- In this state, with so many commands in flight and in this direction, it is still to come.
abbrev pub is_to_come : Awaited → State → ℕ → ℕ → Bool
is_to_come awaited.Answers state in_flight direction = is_negotiating state || not (in_flight == 0)
is_to_come awaited.Written state in_flight direction = direction == 3
is_to_come awaited.End state in_flight direction = is_closing state

abbrev pub is_awaited : {K : Type 0} → Awaited → History K → Bool
is_awaited awaited history = is_to_come awaited (state_after history) (in_flight_after history) (direction_after history)

-- what a pause waits for: the link, in the handle's direction
abbrev pub want : {K : Type 0} → Seen K → Want
want seen = record { link = seen.link; direction = direction_after seen.history }

-- Turns are taken while it is to come, with a pause after each in which nothing happened, which waits for the link. It ends with a pause
-- where the wires were idle for too long by then, whatever came in it, and at once where memory ran out.
pub data Waits {K World : Type 0} (steps : World → List (Call K) → World → Type 0) (awaited : Awaited) : Seen K → World → List wire.Call → Seen K → World → Result (Unit {0}) Halt → Type 0 where
  Is_there : (before : Seen K) (world : World) (calls : List wire.Call) (after : Seen K) (world' : World) (end : Result (Unit {0}) Halt)
      → is_awaited awaited before.history ≡ false → calls ≡ [] → after ≡ before → world' ≡ world → end ≡ Ok tt
      → Waits steps awaited before world calls after world' end
  Moves : (before : Seen K) (world : World) (calls : List wire.Call) (after : Seen K) (world' : World) (end : Result (Unit {0}) Halt)
      → (notice : Noticed) (n : ℕ) (own : List wire.Call) (middle : Seen K) (half : World) (other : List wire.Call)
      → is_awaited awaited before.history ≡ true → TurnsOne steps notice before world own middle half (Some n) → is_short notice ≡ false
      → Waits steps awaited middle half other after world' end → calls ≡ own ++ other
      → Waits steps awaited before world calls after world' end
  Is_still : (before : Seen K) (world : World) (calls : List wire.Call) (after : Seen K) (world' : World) (end : Result (Unit {0}) Halt)
      → (notice : Noticed) (own : List wire.Call) (middle : Seen K) (half : World) (other : List wire.Call)
      → is_awaited awaited before.history ≡ true → TurnsOne steps notice before world own middle half None → is_short notice ≡ false
      → Waits steps awaited middle half other after world' end → calls ≡ own ++ Pause (want middle ∷ []) ∷ other
      → Waits steps awaited before world calls after world' end
  Is_silent : (before : Seen K) (world : World) (calls : List wire.Call) (after : Seen K) (world' : World) (end : Result (Unit {0}) Halt)
      → (notice : Noticed) (own : List wire.Call)
      → is_awaited awaited before.history ≡ true → TurnsOne steps notice before world own after world' None → is_short notice ≡ false → calls ≡ own ++ Pause (want after ∷ []) ∷ [] → end ≡ Err halt.Silent
      → Waits steps awaited before world calls after world' end
  Runs_short : (before : Seen K) (world : World) (calls : List wire.Call) (after : Seen K) (world' : World) (end : Result (Unit {0}) Halt)
      → (moved : Option ℕ)
      → is_awaited awaited before.history ≡ true → TurnsOne steps noticed.NoMemory before world calls after world' moved → end ≡ Err halt.NoMemory
      → Waits steps awaited before world calls after world' end

-- So it was waited, and a call that failed raised the count of faults.
pub record Waited {K World : Type 0} (steps : World → List (Call K) → World → Type 0) (awaited : Awaited) (faults faults' : ℕ) (end : Result (Unit {0}) Halt) (before : Seen K) (world : World) (calls : List wire.Call) (after : Seen K) (world' : World) : Type 0 where
  pub waits : Waits steps awaited before world calls after world' end
  pub blames : Blames calls faults faults'
