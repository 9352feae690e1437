-- What stands beside the course of a copy: which positions of the source were told as zero.
use Rattle.std.specs.Prelude.{◌≡◌, ◌⊎◌, ℕ, ◌+◌, Bool, true, false, List, [], ◌∷◌, ◌++◌, Option, Some, None, slice_get, take, drop}
use Rattle.lnbd_model.specs.declared.target.Place.{Place}
use Rattle.lnbd_model.specs.declared.target.Target.{Target}
use Rattle.lnbd_callbacks.specs.Steps.{OneByOne}
use Rattle.lnbd_link.specs.Call as wire
use Rattle.lnbd_link.specs.Numbers.{is_given}
use Rattle.lnbd_history.specs.Commands as commands
use Rattle.lnbd_history.specs.Events.{Event, Issue}
use Rattle.lnbd_machine.specs.Machine.{Machine}
use Rattle.lnbd_standing.specs.Standing.{StandsFor}
use Rattle.lnbd_asked.specs.Driven.{Spells, is_inward}
use Rattle.lnbd_asked.specs.Link.{Nobody}
use Rattle.lnbd_asked.specs.Transcript.{is_of, on_link, asked_on, dealt_with}
use Rattle.lnbd_poll.specs.Alone.{calls_on}
use Rattle.lnbd_poll.specs.Seen.{Seen}
use Rattle.lnbd_poll.specs.Turns.{Turns, Whole}
use Rattle.lnbd_drives.specs.Driving.{new_on, sets_opt_mode, with_event}
use Rattle.lnbd_plan.specs.declared.grid.Slice.{Slice}
use Rattle.lnbd_plan.specs.Laws.{Window, told_by}
use Rattle.lnbd_board.specs.declared.how.How.{How}
use Rattle.lnbd_board.specs.declared.ticket.Ticket.{Ticket}
use Rattle.lnbd_board.specs.Asks.{Keeps}
use Rattle.lnbd_board.specs.Files as board
use Rattle.lnbd_board.specs.Holds.{WasToldZero}
use Rattle.lnbd_board.specs.Requests.{Request}
use Rattle.lnbd_tracks.specs.Awaiting.{Awaits}
use Rattle.lnbd_tracks.specs.Laws.{is_coming}
use Rattle.lnbd_tracks.specs.Mapping.{Maps, IsToldZero, HoldsZero, ToldAlike, asks_extents}
use Rattle.lnbd_tracks.specs.Heeding.{Heeds, ListensTo, holds_told, holds_whole}
use Rattle.lnbd_tracks.specs.Tracks.{Histories, is_issue}
use Rattle.lnbd_tracks.specs.Unfailed.{IsUnfailed}
use Rattle.lnbd_course.specs.Counted.{CountsSame, HasNotCounted}
use Rattle.lnbd_course.specs.Course.{Course, AreOfSides, with_link}
use Rattle.lnbd_course.specs.Laws.{AsksSource, AsksDestination}

-- What is known of the source's extents: the positions that were told as zero, those of the blocks of each size that one answer told as zero whole, and those
-- that were told of at all.
pub record Known : Type 0 where
  pub zero : ℕ → Bool
  pub whole : (block p : ℕ) → Bool
  pub reach : ℕ → Bool

-- Between two turns: the copy is on its course; of the range whose extents are asked for and not heard yet, if there is one, the board holds what the one block
-- status for it told; and each position that is known as zero was told so by a block status of the source that is done; and
-- each block that one of those told as zero whole is known, and each position that it told of, or the board holds it; and the block status for that range is unanswered until the board is told.
-- While the board was told of no error, no command came to one.
pub record ToldCourse (how : How) (has : ℕ → Bool) (slices : List Slice) (now : board.Seen) (calls : List wire.Call) (seens : List (Seen Ticket)) (wanted : Option (ℕ × ℕ)) (known : Known) : Type 0 where
  pub course : Course how has slices now calls seens
  pub maps : Maps has course.histories wanted now
  pub knows : (p : ℕ) → known.zero p ≡ true → IsToldZero has course.histories p
  pub heeds : Heeds course.histories wanted known.whole known.reach now
  pub awaits : Awaits has course.histories wanted now
  pub unfailed : IsUnfailed course.histories now

-- The same beside other facts of the board and of the histories on all links.
pub record Knows (Facts : board.Seen → Histories → Type 0) (has : ℕ → Bool) (wanted : Option (ℕ × ℕ)) (known : Known) (now : board.Seen) (histories : Histories) : Type 0 where
  pub stood : Facts now histories
  pub maps : Maps has histories wanted now
  pub knows : (p : ℕ) → known.zero p ≡ true → IsToldZero has histories p
  pub heeds : Heeds histories wanted known.whole known.reach now
  pub awaits : Awaits has histories wanted now
  pub unfailed : IsUnfailed histories now

-- The beginning.

-- Before any call nothing is known as zero.
abbrev pub NothingIsTold : Type 0
NothingIsTold = (how : How) (has : ℕ → Bool) (now : board.Seen) (known : Known) → now.rows ≡ [] → HasNotCounted now → ((p : ℕ) → known.zero p ≡ false) → ToldCourse how has [] now [] [] None known

-- What was told stays with a handle on a link that was just made, of either side,
abbrev pub OpeningTells : Type 0
OpeningTells = (how : How) (has : ℕ → Bool) (slices : List Slice) (now : board.Seen) (calls : List wire.Call) (seens : List (Seen Ticket)) (wanted : Option (ℕ × ℕ)) (known : Known) (to : Target) (link : ℕ) (source : Bool) →
    ToldCourse how has slices now calls seens wanted known → is_given link calls ≡ false → ToldCourse how (with_link link source has) slices now (calls ++ wire.Connect to (Some link) ∷ []) (seens ++ new_on link ∷ []) wanted known

-- and where another board takes its place, before any slice is begun or extents are asked for.
abbrev pub SettlingTells : Type 0
SettlingTells = (how how' : How) (has : ℕ → Bool) (now now' : board.Seen) (calls : List wire.Call) (seens : List (Seen Ticket)) (known : Known) →
    ToldCourse how has [] now calls seens None known → now.rows ≡ [] → now.error ≡ None → now.flushing ≡ false → now'.rows ≡ [] → HasNotCounted now' → ToldCourse how' has [] now' calls seens None known

-- Turns.

-- It stays in a turn in which each handle took its part, with the calls of the turn,
abbrev pub TurnsTell : Type 0
TurnsTell = (how : How) (has : ℕ → Bool) (slices : List Slice) (now now' : board.Seen) (calls part : List wire.Call) (before after : List (Seen Ticket)) (wanted : Option (ℕ × ℕ)) (known : Known) (moved : Option ℕ) →
    ToldCourse how has slices now calls before wanted known → Turns (OneByOne board.Files) before now part after now' (Whole moved) → ToldCourse how has slices now' (calls ++ part) after wanted known

-- and with calls that read and write no link.
abbrev pub CallsTell : Type 0
CallsTell = (how : How) (has : ℕ → Bool) (slices : List Slice) (now : board.Seen) (calls more : List wire.Call) (seens : List (Seen Ticket)) (wanted : Option (ℕ × ℕ)) (known : Known) →
    ToldCourse how has slices now calls seens wanted known → ((link : ℕ) → calls_on link more ≡ []) → ToldCourse how has slices now (calls ++ more) seens wanted known

-- Asking.

-- It stays where a handle of the source is asked for anything but extents,
abbrev pub SourceAsksTell : Type 0
SourceAsksTell = (how : How) (has : ℕ → Bool) (slices slices' : List Slice) (now now' : board.Seen) (calls : List wire.Call) (seens : List (Seen Ticket)) (wanted : Option (ℕ × ℕ)) (known : Known) (index : ℕ) (seen : Seen Ticket) (command : commands.Command Ticket) →
    ToldCourse how has slices now calls seens wanted known → slice_get seens index ≡ Some seen → has seen.link ≡ true → Spells seen.history (Issue command) → AsksSource how command slices slices' now now' →
    asks_extents (Issue command) ≡ false → ToldAlike now now' → ToldCourse how has slices' now' calls (with_event index (Issue command) seens) wanted known

-- or a handle of the destination.
abbrev pub DestinationAsksTell : Type 0
DestinationAsksTell = (how : How) (has : ℕ → Bool) (slices slices' : List Slice) (now now' : board.Seen) (calls : List wire.Call) (seens : List (Seen Ticket)) (wanted : Option (ℕ × ℕ)) (known : Known) (index : ℕ) (seen : Seen Ticket) (command : commands.Command Ticket) →
    ToldCourse how has slices now calls seens wanted known → slice_get seens index ≡ Some seen → has seen.link ≡ false → Spells seen.history (Issue command) → AsksDestination how command slices slices' now now' →
    asks_extents (Issue command) ≡ false → ToldAlike now now' → ToldCourse how has slices' now' calls (with_event index (Issue command) seens) wanted known

-- Where the extents of a range are asked for, and none were waited for, those are waited for.
abbrev pub ExtentsAskTell : Type 0
ExtentsAskTell = (how : How) (has : ℕ → Bool) (slices slices' : List Slice) (now now' : board.Seen) (calls : List wire.Call) (seens : List (Seen Ticket)) (range : ℕ × ℕ) (known : Known) (index : ℕ) (seen : Seen Ticket) (command : commands.Command Ticket) →
    ToldCourse how has slices now calls seens None known → slice_get seens index ≡ Some seen → has seen.link ≡ true → Spells seen.history (Issue command) → AsksSource how command slices slices' now now' →
    ListensTo range command → now'.told ≡ [] → now'.mapped ≡ false → ToldCourse how has slices' now' calls (with_event index (Issue command) seens) (Some range) known

-- It stays where the board goes on and nothing is asked,
abbrev pub BoardMovesTell : Type 0
BoardMovesTell = (how : How) (has : ℕ → Bool) (slices : List Slice) (now now' : board.Seen) (calls : List wire.Call) (seens : List (Seen Ticket)) (wanted : Option (ℕ × ℕ)) (known : Known) →
    ToldCourse how has slices now calls seens wanted known → (now'.error ≡ None → now.error ≡ None) → CountsSame now now' → ((source destination : List Request) → Keeps how now.rows source destination now'.rows source destination) → ToldAlike now now' →
    ToldCourse how has slices now' calls seens wanted known

-- and where a caller does something else with a handle.
abbrev pub OthersTell : Type 0
OthersTell = (how : How) (has : ℕ → Bool) (slices : List Slice) (now : board.Seen) (calls : List wire.Call) (seens : List (Seen Ticket)) (wanted : Option (ℕ × ℕ)) (known : Known) (index : ℕ) (seen : Seen Ticket) (event : Event Ticket) →
    ToldCourse how has slices now calls seens wanted known → slice_get seens index ≡ Some seen → is_inward event ≡ true → is_issue event ≡ false → is_coming event ≡ false → Spells seen.history event → sets_opt_mode event ≡ false →
    ToldCourse how has slices now calls (with_event index event seens) wanted known

-- Hearing.

-- Where the range that is waited for was answered, a position of it that the board holds as told as zero may be known as zero, and each block that it
-- holds so whole is to be, and each position of it that the board holds at all, if there was memory for all that was told. Then none is waited for.
abbrev pub HearingTells : Type 0
HearingTells = (how : How) (has : ℕ → Bool) (slices : List Slice) (now : board.Seen) (calls : List wire.Call) (seens : List (Seen Ticket)) (range : ℕ × ℕ) (known known' : Known) →
    ToldCourse how has slices now calls seens (Some range) known → now.mapped ≡ true → now.short ≡ false → ((p : ℕ) → known'.zero p ≡ true → (known.zero p ≡ true) ⊎ HoldsZero range now p) →
    ((block p : ℕ) → known.whole block p ≡ true → known'.whole block p ≡ true) → ((block p : ℕ) → holds_whole range now block p ≡ true → known'.whole block p ≡ true) →
    ((p : ℕ) → known.reach p ≡ true → known'.reach p ≡ true) → ((p : ℕ) → holds_told range now p ≡ true → known'.reach p ≡ true) → ToldCourse how has slices now calls seens None known'

-- Fewer positions may be known as zero, and more blocks, and more positions at all.
abbrev pub FewerTell : Type 0
FewerTell = (how : How) (has : ℕ → Bool) (slices : List Slice) (now : board.Seen) (calls : List wire.Call) (seens : List (Seen Ticket)) (wanted : Option (ℕ × ℕ)) (known known' : Known) →
    ToldCourse how has slices now calls seens wanted known → ((p : ℕ) → known'.zero p ≡ true → known.zero p ≡ true) → ((block p : ℕ) → known.whole block p ≡ true → known'.whole block p ≡ true) → ((p : ℕ) → known.reach p ≡ true → known'.reach p ≡ true) → ToldCourse how has slices now calls seens wanted known'

-- With a window more a position is told zero by it or by those before it.
abbrev pub WindowsTell : Type 0
WindowsTell = (start : ℕ) (windows : List Window) (window : Window) (p : ℕ) → told_by start (windows ++ window ∷ []) p ≡ true → (told_by start windows p ≡ true) ⊎ (window.told p ≡ true)

-- The end.

-- It stays where a handle is taken out that stands for its history.
abbrev pub TakingTells : Type 0
TakingTells = (how : How) (has : ℕ → Bool) (slices : List Slice) (now : board.Seen) (calls : List wire.Call) (seens : List (Seen Ticket)) (wanted : Option (ℕ × ℕ)) (known : Known) (index : ℕ) (seen : Seen Ticket) (limit : ℕ) (handle : Machine Ticket) →
    ToldCourse how has slices now calls seens wanted known → slice_get seens index ≡ Some seen → StandsFor limit seen.history handle → ToldCourse how has slices now calls (take index seens ++ drop (index + 1) seens) wanted known

-- Each link of the source on which something was asked is of this export.
abbrev pub AreOfSource : Place → List wire.Call → (has : ℕ → Bool) → Type 0
AreOfSource from calls has = (link cookie : ℕ) (command : commands.Command Nobody) → has link ≡ true → asked_on (on_link link calls) cookie ≡ Some command → is_of from calls link ≡ true

-- With no handle held, each position that is known as zero was told so by what was dealt with the export.
abbrev pub KnownWasTold : Type 0
KnownWasTold = (from : Place) (how : How) (has : ℕ → Bool) (slices : List Slice) (now : board.Seen) (calls : List wire.Call) (wanted : Option (ℕ × ℕ)) (known : Known) →
    ToldCourse how has slices now calls [] wanted known → AreOfSource from calls has → (p : ℕ) → known.zero p ≡ true → WasToldZero (dealt_with from calls) p

-- Where the links are of their sides, those of the source are of its export.
abbrev pub SidesAreOfSource : Type 0
SidesAreOfSource = (from to : Place) (how : How) (has : ℕ → Bool) (slices : List Slice) (now : board.Seen) (calls : List wire.Call) →
    (course : Course how has slices now calls []) → AreOfSides from to calls has course.histories → AreOfSource from calls has
