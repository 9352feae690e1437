-- What a board knows of extents: they came of one block status of the source.
use Rattle.std.specs.Prelude.{◌≡◌, ◌⊎◌, ℕ, Bool, true, false, ◌||◌, List, [], Option, Some, None}
use Rattle.lnbd_model.specs.declared.kind.Kind.TheVariants.{BlockStatus}
use Rattle.lnbd_callbacks.specs.Calls.{Call}
use Rattle.lnbd_callbacks.specs.Slot.{Slot}
use Rattle.lnbd_callbacks.specs.Steps.{OneByOne}
use Rattle.lnbd_extents.specs.Positions.{within}
use Rattle.lnbd_history.specs.Commands.{Command, Flight, Request}
use Rattle.lnbd_history.specs.Entries.{own, is_ended}
use Rattle.lnbd_history.specs.Events.{Event, History, Issue}
use Rattle.lnbd_history.specs.History.{request, reading}
use Rattle.lnbd_asked.specs.Driven.{outcome_after, zero_after}
use Rattle.lnbd_asked.specs.Transcript.{zero_in}
use Rattle.lnbd_board.specs.declared.ticket.Ticket.{Ticket}
use Rattle.lnbd_board.specs.declared.ticket.Ticket.TheVariants as ticket
use Rattle.lnbd_board.specs.Files.{Seen, Files}
use Rattle.lnbd_tracks.specs.Laws.{IsDone}
use Rattle.lnbd_tracks.specs.Saying.{said_after, said_in}
use Rattle.lnbd_tracks.specs.Tracks.{NoneFails, Histories, Happens, Adds, is_issue}

-- Which commands tell extents.

abbrev pub is_extents : Ticket → Bool
is_extents (ticket.Slice n) = false
is_extents ticket.Extents = true
is_extents ticket.Flush = false

abbrev pub first_tells : Option (Slot Ticket) → Bool
first_tells None = false
first_tells (Some slot) = is_extents slot.callback

-- one of a command's callbacks is that of extents
abbrev pub tells_extents : Flight Ticket → Bool
tells_extents flight = first_tells flight.first || is_extents flight.done.callback

abbrev pub is_extents_if : Option Ticket → Bool
is_extents_if None = false
is_extents_if (Some by) = is_extents by

-- a command is asked that tells extents
abbrev pub asks_extents : Event Ticket → Bool
asks_extents (Issue command) = is_extents_if command.first || is_extents command.done
asks_extents event = false

-- the command of a cookie has ended
abbrev pub is_over : History Ticket → ℕ → Bool
is_over history cookie = is_ended (own cookie (reading history).known.entries)

-- What the board knows.

-- no command that tells extents is under way: each is done
abbrev pub NoneAsked : Histories → Type 0
NoneAsked histories = (link cookie : ℕ) (asks : Request Ticket) → request (histories link) cookie ≡ Some asks → tells_extents asks.flight ≡ true → IsDone (outcome_after (histories link) cookie)

-- A block status of the source was asked for this range, its offset and its length. It is the one command that tells extents and may be under way: each other is done. What the
-- board holds of extents, from the offset on, that command told: what is said of a position there, zero or told at all, its answer said; and where the board was told that it was answered, it is done.
pub record IsWanted (sources : ℕ → Bool) (histories : Histories) (range : ℕ × ℕ) (now : Seen) : Type 0 where
  pub link : ℕ
  pub cookie : ℕ
  pub asks : Request Ticket
  pub source : sources link ≡ true
  pub asked : request (histories link) cookie ≡ Some asks
  pub kind : asks.kind ≡ BlockStatus
  pub offset : asks.offset ≡ range.0
  pub length_ : asks.length ≡ range.1
  pub others : (link' cookie' : ℕ) (other : Request Ticket) → request (histories link') cookie' ≡ Some other → tells_extents other.flight ≡ true →
      ((link' ≡ link) × (cookie' ≡ cookie)) ⊎ IsDone (outcome_after (histories link') cookie')
  pub said : (test : Option ℕ → Bool) → test None ≡ false → (p : ℕ) → said_in test range.0 now.told p ≡ true → said_after test (histories link) cookie p ≡ true
  pub answered : now.mapped ≡ true → IsDone (outcome_after (histories link) cookie)

-- where extents were asked for and not heard yet, or none were
abbrev pub Maps : (sources : ℕ → Bool) → Histories → (wanted : Option (ℕ × ℕ)) → Seen → Type 0
Maps sources histories None now = NoneAsked histories
Maps sources histories (Some range) now = IsWanted sources histories range now

-- A block status of the source that is done told the position as zero, within its range.
pub record IsToldZero (sources : ℕ → Bool) (histories : Histories) (p : ℕ) : Type 0 where
  pub link : ℕ
  pub cookie : ℕ
  pub asks : Request Ticket
  pub source : sources link ≡ true
  pub asked : request (histories link) cookie ≡ Some asks
  pub kind : asks.kind ≡ BlockStatus
  pub has : within (asks.offset, asks.length) p ≡ true
  pub done : IsDone (outcome_after (histories link) cookie)
  pub zero : zero_after (histories link) cookie p ≡ true

-- the board holds the position as told as zero, within this range
pub record HoldsZero (range : ℕ × ℕ) (now : Seen) (p : ℕ) : Type 0 where
  pub has : within range p ≡ true
  pub zero : zero_in range.0 now.told p ≡ true

-- the board was told the same of extents
pub record ToldAlike (before after : Seen) : Type 0 where
  pub told : after.told ≡ before.told
  pub mapped : after.mapped ≡ before.mapped
  pub short : after.short ≡ before.short

-- a block status of this range, with both callbacks for its extents
pub record AsksRange (range : ℕ × ℕ) (command : Command Ticket) : Type 0 where
  pub kind : command.kind ≡ BlockStatus
  pub offset : command.offset ≡ range.0
  pub length_ : command.length ≡ range.1

-- Laws.

-- Before any handle was asked anything no extents were.
abbrev pub NothingMaps : Type 0
NothingMaps = (sources : ℕ → Bool) (now : Seen) → Maps sources (λ link. []) None now

-- The board knows the same after what happens on a handle, but that it is asked, where its calls lead from one board to the other.
abbrev pub ComingMaps : Type 0
ComingMaps = (sources : ℕ → Bool) (link : ℕ) (event : Event Ticket) (histories histories2 : Histories) (wanted : Option (ℕ × ℕ)) (added : List (Call Ticket)) (before after : Seen) →
    Maps sources histories wanted before → NoneFails (reading (histories link)).known.entries → is_issue event ≡ false → Happens link event histories histories2 →
    Adds event (histories link) added → OneByOne Files before added after → Maps sources histories2 wanted after

-- So it does after whatever else happens, but that extents are asked for, where the board was told no more of extents.
abbrev pub OthersMap : Type 0
OthersMap = (sources : ℕ → Bool) (link : ℕ) (event : Event Ticket) (histories histories2 : Histories) (wanted : Option (ℕ × ℕ)) (before after : Seen) →
    Maps sources histories wanted before → asks_extents event ≡ false → Happens link event histories histories2 → ToldAlike before after → Maps sources histories2 wanted after

-- Where no extents are asked for, and the board forgets those that it was told, they may be asked for.
abbrev pub AskingMaps : Type 0
AskingMaps = (sources : ℕ → Bool) (link : ℕ) (command : Command Ticket) (range : ℕ × ℕ) (histories histories2 : Histories) (before after : Seen) →
    Maps sources histories None before → sources link ≡ true → AsksRange range command → Happens link (Issue command) histories histories2 → after.told ≡ [] → after.mapped ≡ false →
    Maps sources histories2 (Some range) after

-- Where they were answered, no others are under way; and each position that the board holds as told as zero was told so by a block status that is done.
abbrev pub HearingMaps : Type 0
HearingMaps = (sources : ℕ → Bool) (histories : Histories) (range : ℕ × ℕ) (now : Seen) → Maps sources histories (Some range) now → now.mapped ≡ true →
    Maps sources histories None now × ((p : ℕ) → HoldsZero range now p → IsToldZero sources histories p)

-- What was told as zero stays so, whatever happens.
abbrev pub ZeroesStay : Type 0
ZeroesStay = (sources : ℕ → Bool) (link : ℕ) (event : Event Ticket) (histories histories2 : Histories) (p : ℕ) → Happens link event histories histories2 → IsToldZero sources histories p → IsToldZero sources histories2 p
