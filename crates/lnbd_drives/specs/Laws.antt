-- Laws of handles that drive links, each one of its own.
use Rattle.std.specs.Prelude.{◌≡◌, ℕ, true, false, List, [], ◌∷◌, ◌++◌, ◌+◌, Option, Some, slice_get, take, drop}
use Rattle.lnbd_outcome.specs.Outcome.{Done}
use Rattle.lnbd_callbacks.specs.Calls.{Call}
use Rattle.lnbd_link.specs.Call as wire
use Rattle.lnbd_history.specs.Answers.{outcome_after, direction_after}
use Rattle.lnbd_history.specs.Events.{Event, History}
use Rattle.lnbd_history.specs.History.{asked}
use Rattle.lnbd_machine.specs.Machine.{Machine}
use Rattle.lnbd_standing.specs.Standing.{StandsFor}
use Rattle.lnbd_asked.specs.Driven.{DrivenSays, Spells, is_inward, written}
use Rattle.lnbd_asked.specs.Link.{Link}
use Rattle.lnbd_asked.specs.Transcript.{on_link}
use Rattle.lnbd_poll.specs.Alone.{AreApart, HaveOwnLinks, calls_on}
use Rattle.lnbd_poll.specs.Seen.{Seen}
use Rattle.lnbd_poll.specs.Turns.{Ending, Turns, Whole, Short}
use Rattle.lnbd_drives.specs.Driving.{AllDrive, AllPass, DriveOwnLinks, new_on, sets_opt_mode, with_event}
use Rattle.lnbd_drives.specs.Said.{SaysAll, SaysDone}

-- In turns.

-- After a turn in which each handle took its part they still drive their links, by the calls before and those of the turn.
abbrev pub TurnsDrive : {K World : Type 0} → (World → List (Call K) → World → Type 0) → Type 0
TurnsDrive {K} {World} steps = (calls part : List wire.Call) (before after : List (Seen K)) (world world' : World) (moved : Option ℕ) →
    DriveOwnLinks calls before → Turns steps before world part after world' (Whole moved) → DriveOwnLinks (calls ++ part) after

-- So they do where memory ran out at a read, but bytes may be unread.
abbrev pub ShortTurnsDrive : {K World : Type 0} → (World → List (Call K) → World → Type 0) → Type 0
ShortTurnsDrive {K} {World} steps = (calls part : List wire.Call) (before after : List (Seen K)) (world world' : World) →
    DriveOwnLinks calls before → Turns steps before world part after world' Short → HaveOwnLinks after × AllDrive (calls ++ part) after

-- A turn reads and writes the links of its handles alone.
abbrev pub TurnsPassOthers : {K World : Type 0} → (World → List (Call K) → World → Type 0) → Type 0
TurnsPassOthers {K} {World} steps = (link : ℕ) (part : List wire.Call) (before after : List (Seen K)) (world world' : World) (ending : Ending) →
    AreApart link before → Turns steps before world part after world' ending → calls_on link part ≡ []

-- Between turns.

-- Calls on other links change nothing.
abbrev pub PassingCallsDrive : Type 0 → Type 0
PassingCallsDrive K = (calls more : List wire.Call) (seens : List (Seen K)) → DriveOwnLinks calls seens → AllPass more seens → DriveOwnLinks (calls ++ more) seens

-- Calls that read and write no link at all are such.
abbrev pub OtherCallsPass : Type 0 → Type 0
OtherCallsPass K = (more : List wire.Call) (seens : List (Seen K)) → ((link : ℕ) → calls_on link more ≡ []) → AllPass more seens

-- Nor does what a caller does with one of the handles, where a command fits its request and opt mode stays off.
abbrev pub CallersDrive : Type 0 → Type 0
CallersDrive K = (calls : List wire.Call) (seens : List (Seen K)) (index : ℕ) (seen : Seen K) (event : Event K) → DriveOwnLinks calls seens → slice_get seens index ≡ Some seen →
    is_inward event ≡ true → Spells seen.history event → sets_opt_mode event ≡ false → DriveOwnLinks calls (with_event index event seens)

-- Nor does taking one of the handles out.
abbrev pub TakenDrive : Type 0 → Type 0
TakenDrive K = (calls : List wire.Call) (seens : List (Seen K)) (index : ℕ) → DriveOwnLinks calls seens → DriveOwnLinks calls (take index seens ++ drop (index + 1) seens)

-- A new handle drives a link of which no call was a read or a write.
abbrev pub NewDrive : Type 0 → Type 0
NewDrive K = (calls : List wire.Call) (seens : List (Seen K)) (link : ℕ) → DriveOwnLinks calls seens → AreApart link seens → calls_on link calls ≡ [] → DriveOwnLinks calls (seens ++ new_on link ∷ [])

-- What the links say.

-- The link of each handle says what its history says.
abbrev pub DrivenSaid : Type 0 → Type 0
DrivenSaid K = (limit : ℕ) (calls : List wire.Call) (seens : List (Seen K)) (index : ℕ) (seen : Seen K) (now : Machine K) → DriveOwnLinks calls seens → slice_get seens index ≡ Some seen →
    StandsFor limit seen.history now → DrivenSays seen.history (on_link seen.link calls)

-- Where each command was wholly written, it says all of them.
abbrev pub AllSaid : Type 0 → Type 0
AllSaid K = (history : History K) (link : Link) → DrivenSays history link → written history ≡ (asked history).issued → SaysAll history link

-- So it is where a handle reads and has nothing to write.
abbrev pub NothingWaits : Type 0 → Type 0
NothingWaits K = (history : History K) → direction_after history ≡ 1 → written history ≡ (asked history).issued

-- A command that is done was wholly written, and the link says that it is done with the same bytes.
abbrev pub DoneSaid : Type 0 → Type 0
DoneSaid K = (history : History K) (link : Link) (cookie : ℕ) (bytes : List ℕ) → DrivenSays history link → outcome_after history cookie ≡ Done bytes → SaysDone history link cookie bytes

-- What a link says stays, whatever is called on others.
abbrev pub SaidStays : Type 0
SaidStays = (link : ℕ) (calls more : List wire.Call) → calls_on link more ≡ [] → on_link link (calls ++ more) ≡ on_link link calls
