-- Where a whole script stands: what has happened on each of its handles, and which of them its lines act on.
use Rattle.std.specs.Prelude.{◌≡◌, ◌+◌, ℕ, Bool, true, false, List, [], ◌∷◌, ◌++◌, All, Option, None, get_or, replicate, set, map, nat_lt, if◌then◌else◌}
use Rattle.lnbd_history.specs.Events.{History, Close}
use Rattle.lnbd_history.specs.History.{asked}
use Rattle.lnbd_history.specs.Laws.{AllFreed, is_closed}
use Rattle.lnbd_link.specs.Call.{Call}
use Rattle.lnbd_lines.specs.Grammar.{max_handles}
use Rattle.lnbd_script.specs.declared.event.Event.{Event}
use Rattle.lnbd_script.specs.declared.keeper.Keeper.{Keeper}
use Rattle.lnbd_script.specs.Lines.{shut_calls}
use Rattle.lnbd_script.specs.Kept.{frees_in}
use Rattle.lnbd_script.specs.Seen.{Seen, callbacks_of}

-- One handle of a script: its own history, of its own lines and the calls on its own link.
pub record Held : Type 0 where
  -- the latest happening first
  pub history : History Keeper
  -- how many calls on the callbacks a line `heard` has shown
  pub shown : ℕ
  pub link : Option ℕ

pub record Scene : Type 0 where
  -- by their numbers
  pub handles : List Held
  -- the number of the one that lines act on
  pub current : ℕ
  -- the first event of the run, on whichever handle
  pub first : Option Event
  -- how many pauses the run has borne
  pub waits : ℕ

-- a handle of which nothing was asked
abbrev pub unused : Held
unused = record { history = []; shown = 0; link = None }

-- Where a script begins: nothing has happened, and its lines act on handle 0.
abbrev pub beginning : Scene
beginning = record { handles = replicate max_handles unused; current = 0; first = None; waits = 0 }

-- what one handle's lines and calls see
abbrev pub seen_of : Held → Option Event → Seen
seen_of held first = record { history = held.history; shown = held.shown; link = held.link; first = first }

abbrev pub held_of : Seen → Held
held_of seen = record { history = seen.history; shown = seen.shown; link = seen.link }

-- the handle of a number
abbrev pub held_at : Scene → ℕ → Held
held_at scene number = get_or scene.handles number unused

-- the current handle
abbrev pub current_of : Scene → Seen
current_of scene = seen_of (held_at scene scene.current) scene.first

-- The current handle stands there, and each other as before.
abbrev pub with_current : Seen → Scene → Scene
with_current seen scene = record { handles = set scene.handles scene.current (held_of seen); current = scene.current; first = seen.first; waits = scene.waits }

-- Another handle is current. A number past the last, which no script has, changes nothing.
abbrev pub choosing : ℕ → Scene → Scene
choosing number scene = record { handles = scene.handles; current = if nat_lt number max_handles then number else scene.current; first = scene.first; waits = scene.waits }

-- The end.

-- what is closed already stays so
abbrev pub ended_if : Bool → Held → Held
ended_if true held = held
ended_if false held = record { history = Close ∷ held.history; shown = held.shown; link = None }

abbrev pub ended_held : Held → Held
ended_held held = ended_if (is_closed held.history) held

-- At the end each handle is closed, in order, if no line closed it.
abbrev pub ending : Scene → Scene
ending scene = record { handles = map ended_held scene.handles; current = scene.current; first = scene.first; waits = scene.waits }

-- Its link is shut with it.
abbrev pub shut_all : List Held → List Call
shut_all [] = []
shut_all (held ∷ others) = shut_calls held.link ++ shut_all others

-- how many callbacks were admitted on all handles
abbrev pub admitted_on : List Held → ℕ
admitted_on [] = 0
admitted_on (held ∷ others) = (asked held.history).admitted + admitted_on others

-- Each handle is closed, each callback that was admitted on it was freed exactly once, and as many calls that free one were made.
abbrev pub IsClosedWell : Held → Type 0
IsClosedWell held = (is_closed held.history ≡ true) × AllFreed held.history × (frees_in (callbacks_of held.history) ≡ (asked held.history).admitted)

abbrev pub AllClosed : Scene → Type 0
AllClosed scene = All IsClosedWell scene.handles
