-- Laws of the course of a copy.
use Rattle.std.specs.Prelude.{◌≡◌, ℕ, ◌+◌, Bool, true, false, List, [], ◌∷◌, ◌++◌, Option, Some, None, slice_get, take, drop}
use Rattle.lnbd_model.specs.declared.target.Place.{Place}
use Rattle.lnbd_model.specs.declared.target.Target.{Target}
use Rattle.lnbd_callbacks.specs.Steps.{OneByOne}
use Rattle.lnbd_link.specs.Call as wire
use Rattle.lnbd_link.specs.Numbers.{is_given}
use Rattle.lnbd_history.specs.Commands as commands
use Rattle.lnbd_history.specs.Events.{Event, Issue}
use Rattle.lnbd_machine.specs.Machine.{Machine}
use Rattle.lnbd_standing.specs.Standing.{StandsFor}
use Rattle.lnbd_asked.specs.Driven.{Spells, is_inward}
use Rattle.lnbd_poll.specs.Alone.{calls_on}
use Rattle.lnbd_poll.specs.Seen.{Seen}
use Rattle.lnbd_poll.specs.Turns.{Turns, Whole}
use Rattle.lnbd_drives.specs.Driving.{new_on, sets_opt_mode, with_event}
use Rattle.lnbd_plan.specs.declared.grid.Slice.{Slice}
use Rattle.lnbd_board.specs.declared.how.How.{How}
use Rattle.lnbd_board.specs.declared.ticket.Ticket.{Ticket}
use Rattle.lnbd_board.specs.Asks.{Keeps}
use Rattle.lnbd_board.specs.Files as board
use Rattle.lnbd_board.specs.Requests.{Request, asking}
use Rattle.lnbd_board.specs.Rows.{Stands}
use Rattle.lnbd_tracks.specs.Laws.{asked_by, is_coming}
use Rattle.lnbd_tracks.specs.Tracks.{OnlyWritesHaveBytes, is_issue}
use Rattle.lnbd_course.specs.Carried.{HasCarried}
use Rattle.lnbd_course.specs.Counted.{CountsSame, HasNotCounted, IsCounted}
use Rattle.lnbd_course.specs.Course.{Course, IsFinished, with_link}

-- The beginning.

-- Before any call a copy with an empty board is on its course.
abbrev pub NothingIsOnCourse : Type 0
NothingIsOnCourse = (how : How) (has : ℕ → Bool) (now : board.Seen) → now.rows ≡ [] → HasNotCounted now → Course how has [] now [] []

-- It stays on it with a handle on a link that was just made, of either side.
abbrev pub OpensOnCourse : Type 0
OpensOnCourse = (how : How) (has : ℕ → Bool) (slices : List Slice) (now : board.Seen) (calls : List wire.Call) (seens : List (Seen Ticket)) (to : Target) (link : ℕ) (source : Bool) →
    Course how has slices now calls seens → is_given link calls ≡ false → Course how (with_link link source has) slices now (calls ++ wire.Connect to (Some link) ∷ []) (seens ++ new_on link ∷ [])

-- It stays on it where another board takes its place, of a copy that writes otherwise, before any slice is begun.
abbrev pub SettlingKeeps : Type 0
SettlingKeeps = (how how' : How) (has : ℕ → Bool) (now now' : board.Seen) (calls : List wire.Call) (seens : List (Seen Ticket)) →
    Course how has [] now calls seens → now.rows ≡ [] → now.error ≡ None → now.flushing ≡ false → now'.rows ≡ [] → HasNotCounted now' → Course how' has [] now' calls seens

-- Turns.

-- It stays on it in a turn in which each handle took its part, with the calls of the turn.
abbrev pub TurnsKeep : Type 0
TurnsKeep = (how : How) (has : ℕ → Bool) (slices : List Slice) (now now' : board.Seen) (calls part : List wire.Call) (before after : List (Seen Ticket)) (moved : Option ℕ) →
    Course how has slices now calls before → Turns (OneByOne board.Files) before now part after now' (Whole moved) → Course how has slices now' (calls ++ part) after

-- It stays on it with calls that read and write no link.
abbrev pub CallsKeep : Type 0
CallsKeep = (how : How) (has : ℕ → Bool) (slices : List Slice) (now : board.Seen) (calls more : List wire.Call) (seens : List (Seen Ticket)) →
    Course how has slices now calls seens → ((link : ℕ) → calls_on link more ≡ []) → Course how has slices now (calls ++ more) seens

-- Asking.

-- With this command asked of the source the invariant of the copy stands, the board counts it, no error was forgotten, and no flush answered.
pub record AsksSource (how : How) (command : commands.Command Ticket) (slices slices' : List Slice) (now now' : board.Seen) : Type 0 where
  pub bytes : OnlyWritesHaveBytes command
  pub earlier : now'.error ≡ None → now.error ≡ None
  pub on : (source destination : List Request) (link cookie : ℕ) → Stands how slices now.rows source destination → Stands how slices' now'.rows (asking link cookie command.done (asked_by command) source) destination
  pub counts : (source destination : List Request) (link cookie : ℕ) → IsCounted now source destination → IsCounted now' (asking link cookie command.done (asked_by command) source) destination
  pub flushed : now'.flushed ≡ now.flushed

-- So it is with this command asked of the destination.
pub record AsksDestination (how : How) (command : commands.Command Ticket) (slices slices' : List Slice) (now now' : board.Seen) : Type 0 where
  pub bytes : OnlyWritesHaveBytes command
  pub earlier : now'.error ≡ None → now.error ≡ None
  pub on : (source destination : List Request) (link cookie : ℕ) → Stands how slices now.rows source destination → Stands how slices' now'.rows source (asking link cookie command.done (asked_by command) destination)
  pub counts : (source destination : List Request) (link cookie : ℕ) → IsCounted now source destination → IsCounted now' source (asking link cookie command.done (asked_by command) destination)
  pub flushed : now'.flushed ≡ now.flushed

-- It stays on its course where a handle of the source is asked for that,
abbrev pub SourceAsksKeep : Type 0
SourceAsksKeep = (how : How) (has : ℕ → Bool) (slices slices' : List Slice) (now now' : board.Seen) (calls : List wire.Call) (seens : List (Seen Ticket)) (index : ℕ) (seen : Seen Ticket) (command : commands.Command Ticket) →
    Course how has slices now calls seens → slice_get seens index ≡ Some seen → has seen.link ≡ true → Spells seen.history (Issue command) → AsksSource how command slices slices' now now' →
    Course how has slices' now' calls (with_event index (Issue command) seens)

-- or a handle of the destination.
abbrev pub DestinationAsksKeep : Type 0
DestinationAsksKeep = (how : How) (has : ℕ → Bool) (slices slices' : List Slice) (now now' : board.Seen) (calls : List wire.Call) (seens : List (Seen Ticket)) (index : ℕ) (seen : Seen Ticket) (command : commands.Command Ticket) →
    Course how has slices now calls seens → slice_get seens index ≡ Some seen → has seen.link ≡ false → Spells seen.history (Issue command) → AsksDestination how command slices slices' now now' →
    Course how has slices' now' calls (with_event index (Issue command) seens)

-- It stays on it where the board goes on and nothing is asked,
abbrev pub BoardMovesKeep : Type 0
BoardMovesKeep = (how : How) (has : ℕ → Bool) (slices : List Slice) (now now' : board.Seen) (calls : List wire.Call) (seens : List (Seen Ticket)) →
    Course how has slices now calls seens → (now'.error ≡ None → now.error ≡ None) → CountsSame now now' → ((source destination : List Request) → Keeps how now.rows source destination now'.rows source destination) →
    Course how has slices now' calls seens

-- and where a caller does something else with a handle.
abbrev pub OthersKeep : Type 0
OthersKeep = (how : How) (has : ℕ → Bool) (slices : List Slice) (now : board.Seen) (calls : List wire.Call) (seens : List (Seen Ticket)) (index : ℕ) (seen : Seen Ticket) (event : Event Ticket) →
    Course how has slices now calls seens → slice_get seens index ≡ Some seen → is_inward event ≡ true → is_issue event ≡ false → is_coming event ≡ false → Spells seen.history event → sets_opt_mode event ≡ false →
    Course how has slices now calls (with_event index event seens)

-- The end.

-- It stays on it where a handle is taken out that stands for its history.
abbrev pub TakingKeeps : Type 0
TakingKeeps = (how : How) (has : ℕ → Bool) (slices : List Slice) (now : board.Seen) (calls : List wire.Call) (seens : List (Seen Ticket)) (index : ℕ) (seen : Seen Ticket) (limit : ℕ) (handle : Machine Ticket) →
    Course how has slices now calls seens → slice_get seens index ≡ Some seen → StandsFor limit seen.history handle → Course how has slices now calls (take index seens ++ drop (index + 1) seens)

-- A copy that is finished has carried each byte.
abbrev pub FinishedCarries : Type 0
FinishedCarries = (from to : Place) (how : How) (calls : List wire.Call) → IsFinished from to how calls → HasCarried from to how.skip calls
