-- Laws of what stands between two turns of a copy from one place to another.
use Rattle.std.specs.Prelude.{◌≡◌, ◌≢◌, ℕ, ◌+◌, ◌≤◌, Bool, true, false, List, [], ◌∷◌, ◌++◌, Option, Some, None, slice_get, take, drop}
use Rattle.lnbd_callbacks.specs.Steps.{OneByOne}
use Rattle.lnbd_link.specs.Call as wire
use Rattle.lnbd_link.specs.Numbers.{is_given}
use Rattle.lnbd_model.specs.declared.target.Place.{Place}
use Rattle.lnbd_history.specs.Commands as commands
use Rattle.lnbd_history.specs.Events.{Event, History, Issue}
use Rattle.lnbd_machine.specs.Machine.{Machine}
use Rattle.lnbd_standing.specs.Standing.{StandsFor}
use Rattle.lnbd_asked.specs.Driven.{Spells}
use Rattle.lnbd_asked.specs.Exports.{HasToldSize, is_naming, name_set}
use Rattle.lnbd_poll.specs.Alone.{calls_on}
use Rattle.lnbd_poll.specs.Seen.{Seen}
use Rattle.lnbd_poll.specs.Turns.{Turns, Whole}
use Rattle.lnbd_drives.specs.Driving.{with_event}
use Rattle.lnbd_plan.specs.declared.cells.Cells.{Cells}
use Rattle.lnbd_plan.specs.declared.grid.Slice.{Slice}
use Rattle.lnbd_plan.specs.Laws.{Window}
use Rattle.lnbd_board.specs.declared.how.How.{How}
use Rattle.lnbd_board.specs.declared.ticket.Ticket.{Ticket}
use Rattle.lnbd_board.specs.Asks.{Keeps}
use Rattle.lnbd_board.specs.Files as board
use Rattle.lnbd_board.specs.Requests.{Request}
use Rattle.lnbd_course.specs.Between.{Between, AreSettings, IsSetting, place_of, with_history_on}
use Rattle.lnbd_course.specs.Carried.{HasCarried}
use Rattle.lnbd_course.specs.Counted.{CountsSame, HasNotCounted}
use Rattle.lnbd_course.specs.Course.{AreOfSides, HaveSizes, IsPlannedWhole, with_link}
use Rattle.lnbd_course.specs.Laws.{AsksSource, AsksDestination}

-- The beginning.

-- It stands before any call,
abbrev pub NothingIsBetween : Type 0
NothingIsBetween = (from to : Place) (how : How) (has : ℕ → Bool) (now : board.Seen) → now.rows ≡ [] → HasNotCounted now → Between from to None how has [] now [] []

-- with a handle of either side that was set up for the side's export, on a link that was just made to the side's address,
abbrev pub OpensBetween : Type 0
OpensBetween = (from to : Place) (size : Option ℕ) (how : How) (has : ℕ → Bool) (slices : List Slice) (now : board.Seen) (calls : List wire.Call) (seens : List (Seen Ticket)) (link : ℕ) (source : Bool) (history : History Ticket) →
    Between from to size how has slices now calls seens → is_given link calls ≡ false → AreSettings history → name_set history ≡ (place_of from to source).name →
    Between from to size how (with_link link source has) slices now (calls ++ wire.Connect (place_of from to source).to (Some link) ∷ []) (seens ++ with_history_on link history ∷ [])

-- where another board takes its place, before any slice is begun,
abbrev pub SettlingKeepsBetween : Type 0
SettlingKeepsBetween = (from to : Place) (size : Option ℕ) (how how' : How) (has : ℕ → Bool) (now now' : board.Seen) (calls : List wire.Call) (seens : List (Seen Ticket)) →
    Between from to size how has [] now calls seens → now.rows ≡ [] → now.error ≡ None → now.flushing ≡ false → now'.rows ≡ [] → HasNotCounted now' → Between from to size how' has [] now' calls seens

-- and where a handle of each side was told its size, and the destination's is no smaller: then the source's is settled.
abbrev pub AgreeingSettles : Type 0
AgreeingSettles = (from to : Place) (how : How) (has : ℕ → Bool) (slices : List Slice) (now : board.Seen) (calls : List wire.Call) (seens : List (Seen Ticket)) (index index' : ℕ) (one other : Seen Ticket) (size room : ℕ) →
    Between from to None how has slices now calls seens → slice_get seens index ≡ Some one → has one.link ≡ true → HasToldSize one.history size →
    slice_get seens index' ≡ Some other → has other.link ≡ false → HasToldSize other.history room → size ≤ room → Between from to (Some size) how has slices now calls seens

-- Turns.

-- It stands after a turn in which each handle took its part,
abbrev pub TurnsKeepBetween : Type 0
TurnsKeepBetween = (from to : Place) (size : Option ℕ) (how : How) (has : ℕ → Bool) (slices : List Slice) (now now' : board.Seen) (calls part : List wire.Call) (before after : List (Seen Ticket)) (moved : Option ℕ) →
    Between from to size how has slices now calls before → Turns (OneByOne board.Files) before now part after now' (Whole moved) → Between from to size how has slices now' (calls ++ part) after

-- and with calls that read and write no link and make none.
abbrev pub CallsKeepBetween : Type 0
CallsKeepBetween = (from to : Place) (size : Option ℕ) (how : How) (has : ℕ → Bool) (slices : List Slice) (now : board.Seen) (calls more : List wire.Call) (seens : List (Seen Ticket)) →
    Between from to size how has slices now calls seens → ((link : ℕ) → calls_on link more ≡ []) → ((link : ℕ) → is_given link more ≡ false) → Between from to size how has slices now (calls ++ more) seens

-- Asking.

-- It stands where a handle of the source is asked what the board says,
abbrev pub SourceAsksKeepBetween : Type 0
SourceAsksKeepBetween = (from to : Place) (size : Option ℕ) (how : How) (has : ℕ → Bool) (slices slices' : List Slice) (now now' : board.Seen) (calls : List wire.Call) (seens : List (Seen Ticket)) (index : ℕ) (seen : Seen Ticket) (command : commands.Command Ticket) →
    Between from to size how has slices now calls seens → slice_get seens index ≡ Some seen → has seen.link ≡ true → Spells seen.history (Issue command) → AsksSource how command slices slices' now now' →
    Between from to size how has slices' now' calls (with_event index (Issue command) seens)

-- or a handle of the destination,
abbrev pub DestinationAsksKeepBetween : Type 0
DestinationAsksKeepBetween = (from to : Place) (size : Option ℕ) (how : How) (has : ℕ → Bool) (slices slices' : List Slice) (now now' : board.Seen) (calls : List wire.Call) (seens : List (Seen Ticket)) (index : ℕ) (seen : Seen Ticket) (command : commands.Command Ticket) →
    Between from to size how has slices now calls seens → slice_get seens index ≡ Some seen → has seen.link ≡ false → Spells seen.history (Issue command) → AsksDestination how command slices slices' now now' →
    Between from to size how has slices' now' calls (with_event index (Issue command) seens)

-- where the board goes on and nothing is asked,
abbrev pub BoardMovesKeepBetween : Type 0
BoardMovesKeepBetween = (from to : Place) (size : Option ℕ) (how : How) (has : ℕ → Bool) (slices : List Slice) (now now' : board.Seen) (calls : List wire.Call) (seens : List (Seen Ticket)) →
    Between from to size how has slices now calls seens → (now'.error ≡ None → now.error ≡ None) → CountsSame now now' → ((source destination : List Request) → Keeps how now.rows source destination now'.rows source destination) →
    Between from to size how has slices now' calls seens

-- and where a caller does something else with a handle, but that it sets a name.
abbrev pub OthersKeepBetween : Type 0
OthersKeepBetween = (from to : Place) (size : Option ℕ) (how : How) (has : ℕ → Bool) (slices : List Slice) (now : board.Seen) (calls : List wire.Call) (seens : List (Seen Ticket)) (index : ℕ) (seen : Seen Ticket) (event : Event Ticket) →
    Between from to size how has slices now calls seens → slice_get seens index ≡ Some seen → IsSetting seen.history event → is_naming event ≡ false → Between from to size how has slices now calls (with_event index event seens)

-- The end.

-- It stands where a handle is taken out that stands for its history.
abbrev pub TakingKeepsBetween : Type 0
TakingKeepsBetween = (from to : Place) (size : Option ℕ) (how : How) (has : ℕ → Bool) (slices : List Slice) (now : board.Seen) (calls : List wire.Call) (seens : List (Seen Ticket)) (index : ℕ) (seen : Seen Ticket) (limit : ℕ) (handle : Machine Ticket) →
    Between from to size how has slices now calls seens → slice_get seens index ≡ Some seen → StandsFor limit seen.history handle → Between from to size how has slices now calls (take index seens ++ drop (index + 1) seens)

-- Where no handle is held any more, each link is of its side's export and no other, if these are two, and both sides told their sizes.
abbrev pub LinksAreOfSides : Type 0
LinksAreOfSides = (from to : Place) (size : ℕ) (how : How) (has : ℕ → Bool) (slices : List Slice) (now : board.Seen) (calls : List wire.Call) (b : Between from to (Some size) how has slices now calls []) → from ≢ to →
    AreOfSides from to calls has b.course.histories × HaveSizes from to calls size

-- So a copy has carried each byte that ends without an error, with all planned and nothing begun and not over, if source and destination are two exports.
abbrev pub EndedCarries : Type 0
EndedCarries = (from to : Place) (size : ℕ) (how : How) (has : ℕ → Bool) (slices : List Slice) (now : board.Seen) (calls : List wire.Call) (cells : Cells) (windows : List Window) →
    Between from to (Some size) how has slices now calls [] → now.rows ≡ [] → now.error ≡ None → IsPlannedWhole how cells windows from calls size slices → from ≢ to → HasCarried from to how.skip calls
