-- What the handles of one side were asked is what was dealt with its export.
use Rattle.std.specs.Prelude.{◌≡◌, ℕ, true, false, List, Some, None, nat_le}
use Rattle.lnbd_model.specs.declared.target.Place.{Place}
use Rattle.lnbd_link.specs.Call.{Call}
use Rattle.lnbd_outcome.specs.Outcome.{Done}
use Rattle.lnbd_history.specs.Commands as commands
use Rattle.lnbd_history.specs.Events.{History}
use Rattle.lnbd_history.specs.History.{request}
use Rattle.lnbd_asked.specs.Driven.{DrivenSays, outcome_after, written}
use Rattle.lnbd_asked.specs.Transcript.{is_of, on_link, dealt_with}
use Rattle.lnbd_board.specs.declared.ticket.Ticket.{Ticket}
use Rattle.lnbd_board.specs.Requests.{Request, IsDealt}
use Rattle.lnbd_tracks.specs.Tracks.{Histories, AllTrack}

-- The handles are those of this export's links: each of these links says what its handle's history says, on no other link was anything asked, and each command was
-- wholly written.
pub record AreOf (place : Place) (calls : List Call) (histories : Histories) : Type 0 where
  pub says : (link : ℕ) → is_of place calls link ≡ true → DrivenSays (histories link) (on_link link calls)
  pub others : (link cookie : ℕ) → is_of place calls link ≡ false → request (histories link) cookie ≡ None
  pub whole : (link cookie : ℕ) (asks : commands.Request Ticket) → request (histories link) cookie ≡ Some asks → nat_le cookie (written (histories link)) ≡ true

-- A command that is done was wholly written.
abbrev pub DoneIsWritten : Type 0 → Type 0
DoneIsWritten K = (history : History K) (cookie : ℕ) (bytes : List ℕ) → outcome_after history cookie ≡ Done bytes → nat_le cookie (written history) ≡ true

-- What they track was dealt with the export, and nothing else was.
abbrev pub TrackedAreDealt : Type 0
TrackedAreDealt = (place : Place) (calls : List Call) (histories : Histories) (requests : List Request) → AllTrack histories requests → AreOf place calls histories → IsDealt requests (dealt_with place calls)
