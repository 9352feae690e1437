-- Handles that are held with their links.
use Rattle.std.specs.Prelude.{◌≡◌, ◌||◌, ◌==◌, not, ℕ, Bool, true, false, List, [], ◌∷◌, map, Option, Some, None, if◌then◌else◌}
use Rattle.lnbd_callbacks.specs.Calls.{Call}
use Rattle.lnbd_model.specs.declared.state.State.{State}
use Rattle.lnbd_model.specs.declared.state.State.TheVariants as state
use Rattle.lnbd_history.specs.Answers.{state_after, in_flight_after, direction_after}
use Rattle.lnbd_machine.specs.Machine.{Machine}
use Rattle.lnbd_machine.specs.Now.{state_now, in_flight_now, direction_now}
use Rattle.lnbd_commands.specs.declared.close.Closed.{Closed}
use Rattle.lnbd_handle.specs.Histories.{Closes}
use Rattle.lnbd_link.specs.declared.wires.Want.{Want}
use Rattle.lnbd_poll.specs.declared.held.Held.{Held as Kept}
use Rattle.lnbd_poll.specs.Seen.{Seen, IsAt}

-- A handle with the number of its link, and the bytes that were read from the link and not taken. What stands in the handle's place is not seen here.
pub record Held (K : Type 0) : Type 0 where
  pub link : ℕ
  pub handle : Machine K
  pub inbox : List ℕ

abbrev pub seen_held : {K : Type 0} → Kept K → Held K
seen_held held = record { link = held.link; handle = held.handle.machine; inbox = held.inbox }

abbrev pub all_held : {K : Type 0} → List (Kept K) → List (Held K)
all_held kept = map seen_held kept

-- Each handle stands with its link where the list says.
abbrev pub AreAt : {K : Type 0} → List (Held K) → List (Seen K) → Type 0
AreAt [] [] = Unit {0}
AreAt [] (seen ∷ all) = ⊥
AreAt (held ∷ others) [] = ⊥
AreAt (held ∷ others) (seen ∷ all) = IsAt held.link held.handle held.inbox seen × AreAt others all

-- It negotiates, or asked for the end of its connection.
abbrev pub is_on_its_way : State → Bool
is_on_its_way state.Created = false
is_on_its_way state.Negotiating = true
is_on_its_way state.OptMode = false
is_on_its_way state.Ready = false
is_on_its_way state.Closing = true
is_on_its_way state.Closed = false
is_on_its_way (state.Dead cause) = false

-- A handle waits for its link: it is on its way, has commands in flight, or bytes that wait to go out.
abbrev pub is_wanting : State → ℕ → ℕ → Bool
is_wanting state in_flight direction = is_on_its_way state || (not (in_flight == 0) || (direction == 3))

-- what a pause waits for on a link, in its handle's direction
abbrev pub want_of : ℕ → State → ℕ → ℕ → Option Want
want_of link state in_flight direction = if is_wanting state in_flight direction then Some (record { link = link; direction = direction }) else None

abbrev pub with_want : Option Want → List Want → List Want
with_want None wants = wants
with_want (Some want) wants = want ∷ wants

module _ {K : Type 0} where
  abbrev pub want_now : Held K → Option Want
  want_now held = want_of held.link (state_now held.handle.known) (in_flight_now held.handle.known) (direction_now held.handle.known)

  abbrev pub wants_now : List (Held K) → List Want
  wants_now [] = []
  wants_now (held ∷ all) = with_want (want_now held) (wants_now all)

  -- A pause waits for each handle that waits for its link.
  abbrev pub wants_after : List (Seen K) → List Want
  wants_after [] = []
  wants_after (seen ∷ all) = with_want (want_of seen.link (state_after seen.history) (in_flight_after seen.history) (direction_after seen.history)) (wants_after all)

-- how many handles may be held
abbrev pub max_held : ℕ
max_held = 64

-- Each handle is closed in order, and this is what is told of each.
abbrev pub AllClose : {K World : Type 0} → (World → List (Call K) → World → Type 0) → List (Seen K) → List Closed → World → World → Type 0
AllClose steps [] [] before after = after ≡ before
AllClose steps [] (closed ∷ others) before after = ⊥
AllClose steps (seen ∷ all) [] before after = ⊥
AllClose {K} {World} steps (seen ∷ all) (closed ∷ others) before after = (half : World) × Closes steps closed.notes closed.opened closed.freed before half seen.history × AllClose steps all others half after
