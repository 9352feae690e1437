-- What a board holds of extents is all that was told of them: no block that one answer told as zero whole is passed over, and no position that one told of.
use Rattle.std.specs.Prelude.{◌≡◌, ◌⊎◌, ℕ, ◌*◌, ◌/◌, Bool, true, false, ◌&&◌, List, [], Option, Some, None}
use Rattle.lnbd_callbacks.specs.Calls.{Call}
use Rattle.lnbd_callbacks.specs.Steps.{OneByOne}
use Rattle.lnbd_extents.specs.Positions.{within, all_at}
use Rattle.lnbd_history.specs.Commands.{Command, Request}
use Rattle.lnbd_history.specs.Entries.{own, failure_in}
use Rattle.lnbd_history.specs.Events.{Event, History, Issue}
use Rattle.lnbd_history.specs.History.{request, reading}
use Rattle.lnbd_asked.specs.Driven.{outcome_after, zero_after}
use Rattle.lnbd_asked.specs.Transcript.{zero_in}
use Rattle.lnbd_board.specs.declared.ticket.Ticket.{Ticket}
use Rattle.lnbd_board.specs.declared.ticket.Ticket.TheVariants as ticket
use Rattle.lnbd_board.specs.Files.{Seen, Files}
use Rattle.lnbd_tracks.specs.Laws.{IsDone, is_coming}
use Rattle.lnbd_tracks.specs.Saying.{is_told, said_after, said_in}
use Rattle.lnbd_tracks.specs.Mapping.{Maps, AsksRange, ToldAlike, asks_extents, first_tells, is_over, tells_extents}
use Rattle.lnbd_tracks.specs.Tracks.{NoneFails, Histories, Happens, Adds, is_issue}

-- each position is so of the block of this size that has this one
abbrev pub is_whole : (block : ℕ) → (test : ℕ → Bool) → ℕ → Bool
is_whole block test p = all_at test (p / block * block) block

-- the position lies in the range of the request, and its answer told it as zero
abbrev pub zero_asked : History Ticket → (cookie : ℕ) → Request Ticket → ℕ → Bool
zero_asked history cookie asks p = within (asks.offset, asks.length) p && zero_after history cookie p

-- and so it told of it at all
abbrev pub told_asked : History Ticket → (cookie : ℕ) → Request Ticket → ℕ → Bool
told_asked history cookie asks p = within (asks.offset, asks.length) p && said_after is_told history cookie p

-- A command that tells extents is over, and where it is done, each block that it told as zero whole is known, by its size and each of its positions; and so is
-- each position that it told of, which its extents reach.
pub record IsHeard (history : History Ticket) (known : (block p : ℕ) → Bool) (reach : ℕ → Bool) (cookie : ℕ) (asks : Request Ticket) : Type 0 where
  pub over : is_over history cookie ≡ true
  pub whole : IsDone (outcome_after history cookie) → (block p : ℕ) → is_whole block (zero_asked history cookie asks) p ≡ true → known block p ≡ true
  pub reached : IsDone (outcome_after history cookie) → (p : ℕ) → told_asked history cookie asks p ≡ true → reach p ≡ true

-- So is each that was asked.
abbrev pub AllHeard : Histories → (known : (block p : ℕ) → Bool) → (reach : ℕ → Bool) → Type 0
AllHeard histories known reach = (link cookie : ℕ) (asks : Request Ticket) → request (histories link) cookie ≡ Some asks → tells_extents asks.flight ≡ true → IsHeard (histories link) known reach cookie asks

-- So is each but one, which was asked for this range. The board holds all that its answer told so far, if there was memory for it and the answer has no fault.
pub record IsAwaited (histories : Histories) (range : ℕ × ℕ) (known : (block p : ℕ) → Bool) (reach : ℕ → Bool) (now : Seen) : Type 0 where
  pub link : ℕ
  pub cookie : ℕ
  pub asks : Request Ticket
  pub asked : request (histories link) cookie ≡ Some asks
  pub first : first_tells asks.flight.first ≡ true
  pub offset : asks.offset ≡ range.0
  pub length_ : asks.length ≡ range.1
  pub others : (link' cookie' : ℕ) (other : Request Ticket) → request (histories link') cookie' ≡ Some other → tells_extents other.flight ≡ true →
      ((link' ≡ link) × (cookie' ≡ cookie)) ⊎ IsHeard (histories link') known reach cookie' other
  pub held : now.short ≡ false → failure_in asks (own cookie (reading (histories link)).known.entries) ≡ None → (test : Option ℕ → Bool) → test None ≡ false → (p : ℕ) → said_after test (histories link) cookie p ≡ true → said_in test range.0 now.told p ≡ true

-- where extents were asked for and not heard yet, or none were
abbrev pub Heeds : Histories → (wanted : Option (ℕ × ℕ)) → (known : (block p : ℕ) → Bool) → (reach : ℕ → Bool) → Seen → Type 0
Heeds histories None known reach now = AllHeard histories known reach
Heeds histories (Some range) known reach now = IsAwaited histories range known reach now

-- a block status of this range, whose extents and whose end are told to callbacks for extents
pub record ListensTo (range : ℕ × ℕ) (command : Command Ticket) : Type 0 where
  pub asks : AsksRange range command
  pub first : command.first ≡ Some ticket.Extents
  pub done : command.done ≡ ticket.Extents

-- Laws.

-- Before any handle was asked anything there is nothing to hear.
abbrev pub NothingHeeds : Type 0
NothingHeeds = (known : (block p : ℕ) → Bool) (reach : ℕ → Bool) (now : Seen) → Heeds (λ link. []) None known reach now

-- All is heard still after what happens on a handle, but that it is asked, where its calls lead from one board to the other.
abbrev pub ComingHeeds : Type 0
ComingHeeds = (link : ℕ) (event : Event Ticket) (histories histories2 : Histories) (wanted : Option (ℕ × ℕ)) (known : (block p : ℕ) → Bool) (reach : ℕ → Bool) (added : List (Call Ticket)) (before after : Seen) →
    Heeds histories wanted known reach before → is_issue event ≡ false → Happens link event histories histories2 →
    Adds event (histories link) added → OneByOne Files before added after → Heeds histories2 wanted known reach after

-- So it is after whatever else happens, but that extents are asked for or bytes come, where the board was told no more of extents.
abbrev pub OthersHeed : Type 0
OthersHeed = (link : ℕ) (event : Event Ticket) (histories histories2 : Histories) (wanted : Option (ℕ × ℕ)) (known : (block p : ℕ) → Bool) (reach : ℕ → Bool) (before after : Seen) →
    Heeds histories wanted known reach before → asks_extents event ≡ false → is_coming event ≡ false → Happens link event histories histories2 → ToldAlike before after → Heeds histories2 wanted known reach after

-- Extents may be asked for where none are.
abbrev pub AskingHeeds : Type 0
AskingHeeds = (link : ℕ) (command : Command Ticket) (range : ℕ × ℕ) (histories histories2 : Histories) (known : (block p : ℕ) → Bool) (reach : ℕ → Bool) (before after : Seen) →
    Heeds histories None known reach before → ListensTo range command → Happens link (Issue command) histories histories2 → Heeds histories2 (Some range) known reach after

-- the board holds as told as zero, within this range, the whole block of this size that has the position
abbrev pub holds_whole : (range : ℕ × ℕ) → Seen → (block p : ℕ) → Bool
holds_whole range now block p = is_whole block (λ q. within range q && zero_in range.0 now.told q) p

-- the board holds that the position was told of, within this range
abbrev pub holds_told : (range : ℕ × ℕ) → Seen → ℕ → Bool
holds_told range now p = within range p && said_in is_told range.0 now.told p

-- Where they were answered, and there was memory for them, a block is known that was told as zero whole, or that the board holds so, and a position that was told of, or
-- that the board holds so.
abbrev pub HearingHeeds : Type 0
HearingHeeds = (sources : ℕ → Bool) (histories : Histories) (range : ℕ × ℕ) (known known' : (block p : ℕ) → Bool) (reach reach' : ℕ → Bool) (now : Seen) → Heeds histories (Some range) known reach now → Maps sources histories (Some range) now → ((link : ℕ) → NoneFails (reading (histories link)).known.entries) →
    now.mapped ≡ true → now.short ≡ false → ((block p : ℕ) → known block p ≡ true → known' block p ≡ true) → ((block p : ℕ) → holds_whole range now block p ≡ true → known' block p ≡ true) →
    ((p : ℕ) → reach p ≡ true → reach' p ≡ true) → ((p : ℕ) → holds_told range now p ≡ true → reach' p ≡ true) → Heeds histories None known' reach' now
