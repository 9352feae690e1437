-- What a settle does over all handles, round by round.
use Rattle.std.specs.Prelude.{◌≡◌, ◌⊎◌, ◌<◌, ◌+◌, ℕ, Bool, true, false, List, [], ◌∷◌, ◌++◌, Option, Some, None, Result, Ok, Err}
use Rattle.std.specs.List.{list_any}
use Rattle.lnbd_history.specs.Events.{History}
use Rattle.lnbd_history.specs.Answers.{state_after, in_flight_after, direction_after}
use Rattle.lnbd_link.specs.Call.{Call, Pause}
use Rattle.lnbd_link.specs.declared.wires.Want.{Want}
use Rattle.lnbd_poll.specs.Held.{want_of, with_want}
use Rattle.lnbd_script.specs.declared.event.Event.{Event}
use Rattle.lnbd_script.specs.declared.keeper.Keeper.{Keeper}
use Rattle.lnbd_script.specs.declared.told.Halt.{Halt}
use Rattle.lnbd_script.specs.declared.told.Halt.TheVariants as halt
use Rattle.lnbd_script.specs.Scenes.{Held, Scene, held_of, seen_of}
use Rattle.lnbd_link.specs.Count.{patience}
use Rattle.lnbd_script.specs.Seen.{Seen}
use Rattle.lnbd_script.specs.Turns.{Turns, TurnsShort, is_busy, stirs}

-- A handle with a link takes a turn on it. One without has nothing to do.
abbrev pub TakesPart : Option ℕ → Seen → List Call → Seen → Type 0
TakesPart None before calls after = (calls ≡ []) × (after ≡ before)
TakesPart (Some link) before calls after = Turns link before calls after

-- Memory runs out at the read of its turn.
abbrev pub PartShort : Option ℕ → Seen → List Call → Seen → Type 0
PartShort None before calls after = ⊥
PartShort (Some link) before calls after = TurnsShort link before calls after

-- one handle's part, and then the others'
pub record PartThen (held : Held) (first : Option Event) (Others : Option Event → List Call → List Held → Option Event → Type 0) (calls : List Call) (after : List Held) (first' : Option Event) : Type 0 where
  pub own : List Call
  pub here : Seen
  pub part : TakesPart held.link (seen_of held first) own here
  pub other : List Call
  pub there : List Held
  pub others : Others here.first other there first'
  pub calls_are : calls ≡ own ++ other
  pub after_is : after ≡ held_of here ∷ there

-- one handle's part at which memory runs out: the others are not tried
pub record PartStops (held : Held) (others : List Held) (first : Option Event) (calls : List Call) (after : List Held) (first' : Option Event) : Type 0 where
  pub here : Seen
  pub part : PartShort held.link (seen_of held first) calls here
  pub after_is : after ≡ held_of here ∷ others
  pub first_is : first' ≡ here.first

-- A round: each handle in order takes its part, unless memory runs out.
abbrev pub Round : (whole : Bool) → List Held → Option Event → List Call → List Held → Option Event → Type 0
Round whole [] first calls after first' = (whole ≡ true) × (calls ≡ []) × (after ≡ []) × (first' ≡ first)
Round whole (held ∷ others) first calls after first' =
    PartThen held first (λ f c a f'. Round whole others f c a f') calls after first' ⊎ ((whole ≡ false) × PartStops held others first calls after first')

-- A handle is busy that has a link and negotiates, has a command in flight, or bytes that wait to go out.
abbrev pub busy_if : Option ℕ → History Keeper → Bool
busy_if None history = false
busy_if (Some link) history = is_busy history

abbrev pub is_busy_held : Held → Bool
is_busy_held held = busy_if held.link held.history

abbrev pub is_any_busy : List Held → Bool
is_any_busy handles = list_any is_busy_held handles

-- A pause waits for the links of the handles that are busy, or asked for the end of their connection.
abbrev pub want_if : Option ℕ → History Keeper → Option Want
want_if None history = None
want_if (Some link) history = want_of link (state_after history) (in_flight_after history) (direction_after history)

abbrev pub wants_of : List Held → List Want
wants_of [] = []
wants_of (held ∷ others) = with_want (want_if held.link held.history) (wants_of others)

-- after a round, and after a pause that was borne
abbrev pub with_round : List Held → Option Event → ℕ → Scene → Scene
with_round handles first waits scene = record { handles = handles; current = scene.current; first = first; waits = waits }

-- A settle takes rounds until no handle is busy, with a pause after each in which nothing happened. It ends at once where the
-- wires were idle for too long, or memory ran out. The pauses of the whole run are counted, and no more are made than are borne.
pub data Settles : Scene → List Call → Scene → Result (Unit {0}) Halt → Type 0 where
  At_rest : (scene : Scene) (calls : List Call) (after : Scene) (end : Result (Unit {0}) Halt)
      → is_any_busy scene.handles ≡ false → calls ≡ [] → after ≡ scene → end ≡ Ok tt
      → Settles scene calls after end
  Stirs : (scene : Scene) (calls : List Call) (after : Scene) (end : Result (Unit {0}) Halt) (own : List Call) (handles : List Held) (first : Option Event) (other : List Call)
      → is_any_busy scene.handles ≡ true → Round true scene.handles scene.first own handles first → list_any stirs own ≡ true
      → Settles (with_round handles first scene.waits scene) other after end → calls ≡ own ++ other
      → Settles scene calls after end
  Is_still : (scene : Scene) (calls : List Call) (after : Scene) (end : Result (Unit {0}) Halt) (own : List Call) (handles : List Held) (first : Option Event) (other : List Call)
      → is_any_busy scene.handles ≡ true → Round true scene.handles scene.first own handles first → list_any stirs own ≡ false → scene.waits < patience
      → Settles (with_round handles first (scene.waits + 1) scene) other after end → calls ≡ own ++ Pause (wants_of handles) ∷ other
      → Settles scene calls after end
  Is_silent : (scene : Scene) (calls : List Call) (after : Scene) (end : Result (Unit {0}) Halt) (own : List Call) (handles : List Held) (first : Option Event)
      → is_any_busy scene.handles ≡ true → Round true scene.handles scene.first own handles first → list_any stirs own ≡ false → scene.waits < patience
      → calls ≡ own ++ Pause (wants_of handles) ∷ [] → after ≡ with_round handles first scene.waits scene → end ≡ Err halt.Silent
      → Settles scene calls after end
  Runs_short : (scene : Scene) (calls : List Call) (after : Scene) (end : Result (Unit {0}) Halt) (handles : List Held) (first : Option Event)
      → is_any_busy scene.handles ≡ true → Round false scene.handles scene.first calls handles first → after ≡ with_round handles first scene.waits scene → end ≡ Err halt.NoMemory
      → Settles scene calls after end
