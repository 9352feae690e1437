-- A block status is under way until the board is told that it was answered, or of an error.
use Rattle.std.specs.Prelude.{◌≡◌, ℕ, Bool, true, false, List, Option, Some, None, is_some}
use Rattle.lnbd_model.specs.declared.kind.Kind.TheVariants.{BlockStatus}
use Rattle.lnbd_callbacks.specs.Calls.{Call}
use Rattle.lnbd_callbacks.specs.Steps.{OneByOne}
use Rattle.lnbd_outcome.specs.Outcome.{Unfinished}
use Rattle.lnbd_history.specs.Commands.{Command, Request}
use Rattle.lnbd_history.specs.Events.{Event, Issue}
use Rattle.lnbd_history.specs.History.{request}
use Rattle.lnbd_asked.specs.Driven.{outcome_after}
use Rattle.lnbd_board.specs.declared.ticket.Ticket.{Ticket}
use Rattle.lnbd_board.specs.Files.{Seen, Files}
use Rattle.lnbd_tracks.specs.Laws.{is_coming}
use Rattle.lnbd_tracks.specs.Mapping.{is_extents}
use Rattle.lnbd_tracks.specs.Tracks.{Histories, Happens, Adds, is_issue}

-- A block status was asked of the source, whose end is told to the callback for extents, and it is unanswered.
pub record IsAsking (sources : ℕ → Bool) (histories : Histories) : Type 0 where
  pub link : ℕ
  pub cookie : ℕ
  pub asks : Request Ticket
  pub source : sources link ≡ true
  pub asked : request (histories link) cookie ≡ Some asks
  pub kind : asks.kind ≡ BlockStatus
  pub ends : is_extents asks.flight.done.callback ≡ true
  pub waits : outcome_after (histories link) cookie ≡ Unfinished

-- So it is where the extents of a range are waited for, and the board was told neither that they were answered nor of an error.
pub record Awaits (sources : ℕ → Bool) (histories : Histories) (wanted : Option (ℕ × ℕ)) (now : Seen) : Type 0 where
  pub on : is_some wanted ≡ true → now.error ≡ None → now.mapped ≡ false → IsAsking sources histories

-- A board that has no error had none before, and one that was not told that extents were answered wasn't before.
pub record IsNoFurther (before after : Seen) : Type 0 where
  pub error : after.error ≡ None → before.error ≡ None
  pub mapped : after.mapped ≡ false → before.mapped ≡ false

-- Laws.

-- So it stays with what happens on a handle, but that it is asked, where its calls lead from one board to the other,
abbrev pub ComingAwaits : Type 0
ComingAwaits = (sources : ℕ → Bool) (link : ℕ) (event : Event Ticket) (histories histories2 : Histories) (wanted : Option (ℕ × ℕ)) (added : List (Call Ticket)) (before after : Seen) →
    Awaits sources histories wanted before → is_issue event ≡ false → Happens link event histories histories2 → Adds event (histories link) added → OneByOne Files before added after → Awaits sources histories2 wanted after

-- and with whatever else happens.
abbrev pub OthersAwait : Type 0
OthersAwait = (sources : ℕ → Bool) (link : ℕ) (event : Event Ticket) (histories histories2 : Histories) (wanted : Option (ℕ × ℕ)) (before after : Seen) →
    Awaits sources histories wanted before → is_coming event ≡ false → Happens link event histories histories2 → IsNoFurther before after → Awaits sources histories2 wanted after

-- It is so where a block status is asked.
abbrev pub AskingAwaits : Type 0
AskingAwaits = (sources : ℕ → Bool) (link : ℕ) (command : Command Ticket) (wanted : Option (ℕ × ℕ)) (histories histories2 : Histories) (after : Seen) →
    sources link ≡ true → command.kind ≡ BlockStatus → is_extents command.done ≡ true → Happens link (Issue command) histories histories2 → Awaits sources histories2 wanted after
