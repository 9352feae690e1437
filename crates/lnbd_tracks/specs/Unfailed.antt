-- While a board was told of no error, no command came to one; and faulty content that a command came to is its error.
use Rattle.std.specs.Prelude.{◌≡◌, ℕ, false, List, Some, None}
use Rattle.lnbd_model.specs.declared.errors.TheConstants.{EPROTO}
use Rattle.lnbd_model.specs.declared.failure.Failure.{Failure}
use Rattle.lnbd_callbacks.specs.Calls.{Call}
use Rattle.lnbd_callbacks.specs.Steps.{OneByOne}
use Rattle.lnbd_history.specs.Events.{Event}
use Rattle.lnbd_history.specs.History.{reading}
use Rattle.lnbd_board.specs.declared.ticket.Ticket.{Ticket}
use Rattle.lnbd_board.specs.Files.{Seen, Files}
use Rattle.lnbd_tracks.specs.Failing.{CameTo, failure_by}
use Rattle.lnbd_tracks.specs.Laws.{is_coming}
use Rattle.lnbd_tracks.specs.Tracks.{NoneFails, Histories, Happens, Adds, is_issue}

-- Where the board was told of no error, no command of these handles came to a failure.
pub record IsUnfailed (histories : Histories) (now : Seen) : Type 0 where
  pub on : now.error ≡ None → (why : Failure) → CameTo why histories → ⊥

-- Where a command of these handles came to faulty content, that is the board's error, whatever else it was told.
pub record TellsContent (histories : Histories) (now : Seen) : Type 0 where
  pub on : CameTo (failure_by EPROTO) histories → now.error ≡ Some EPROTO

-- Laws.

-- So it stays with what happens on a handle, but that it is asked, where its calls lead from one board to the other,
abbrev pub ComingUnfailed : Type 0
ComingUnfailed = (link : ℕ) (event : Event Ticket) (histories histories2 : Histories) (added : List (Call Ticket)) (before after : Seen) →
    IsUnfailed histories before → NoneFails (reading (histories link)).known.entries → is_issue event ≡ false → Happens link event histories histories2 → Adds event (histories link) added → OneByOne Files before added after → IsUnfailed histories2 after

-- and with whatever else happens, where a board that has no error had none before.
abbrev pub OthersUnfailed : Type 0
OthersUnfailed = (link : ℕ) (event : Event Ticket) (histories histories2 : Histories) (before after : Seen) →
    IsUnfailed histories before → is_coming event ≡ false → Happens link event histories histories2 → (after.error ≡ None → before.error ≡ None) → IsUnfailed histories2 after

-- A board tells of faulty content with what happens on a handle, but that it is asked, where its calls lead from one board to the other,
abbrev pub ComingTellsContent : Type 0
ComingTellsContent = (link : ℕ) (event : Event Ticket) (histories histories2 : Histories) (added : List (Call Ticket)) (before after : Seen) →
    TellsContent histories before → NoneFails (reading (histories link)).known.entries → is_issue event ≡ false → Happens link event histories histories2 → Adds event (histories link) added → OneByOne Files before added after → TellsContent histories2 after

-- and with whatever else happens, where a board that tells of it goes on to.
abbrev pub OthersTellContent : Type 0
OthersTellContent = (link : ℕ) (event : Event Ticket) (histories histories2 : Histories) (before after : Seen) →
    TellsContent histories before → is_coming event ≡ false → Happens link event histories histories2 → (before.error ≡ Some EPROTO → after.error ≡ Some EPROTO) → TellsContent histories2 after
