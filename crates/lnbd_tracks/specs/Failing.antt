-- What a board keeps as an error is what a command came to.
use Rattle.std.specs.Prelude.{◌≡◌, ◌≢◌, ◌⊎◌, ℕ, true, List, Option, Some, None, false, nat_le, ◌==◌, if◌then◌else◌}
use Rattle.lnbd_model.specs.declared.errors.TheConstants.{EPROTO, ENOTCONN}
use Rattle.lnbd_model.specs.declared.failure.Failure.{Failure}
use Rattle.lnbd_model.specs.declared.failure.Origin.TheVariants as from
use Rattle.lnbd_callbacks.specs.Calls.{Call}
use Rattle.lnbd_callbacks.specs.Steps.{OneByOne}
use Rattle.lnbd_outcome.specs.Outcome.{failure_of}
use Rattle.lnbd_history.specs.Commands as commands
use Rattle.lnbd_history.specs.Entries.{Filing}
use Rattle.lnbd_history.specs.Events.{Event, History}
use Rattle.lnbd_history.specs.History.{request}
use Rattle.lnbd_asked.specs.Driven.{outcome_after, written}
use Rattle.lnbd_asked.specs.Transcript.{outcome_of}
use Rattle.lnbd_plan.specs.declared.grid.Slice.{Slice}
use Rattle.lnbd_board.specs.declared.how.How.{How}
use Rattle.lnbd_board.specs.declared.ticket.Ticket.{Ticket}
use Rattle.lnbd_board.specs.Files.{Seen, Files}
use Rattle.lnbd_board.specs.Requests.{Request}
use Rattle.lnbd_board.specs.Rows.{Stands}
use Rattle.lnbd_tracks.specs.Tracks.{Histories, AllTrack, Happens, Adds, is_issue}

-- The failure of this number: EPROTO is that of content at fault and ENOTCONN that of a lost connection, neither of which a server tells.
abbrev pub failure_by : ℕ → Failure
failure_by error = record { origin = if error == EPROTO then from.Content else if error == ENOTCONN then from.Lost else from.Told; error = error }

-- A command of one of these handles came to this failure.
pub record CameTo (why : Failure) (histories : Histories) : Type 0 where
  pub link : ℕ
  pub cookie : ℕ
  pub asks : commands.Request Ticket
  pub asked : request (histories link) cookie ≡ Some asks
  pub came : failure_of (outcome_after (histories link) cookie) ≡ Some why

-- An error that the board has now and had not before is one that a command came to.
abbrev pub ToldBy : Histories → (before after : Seen) → Type 0
ToldBy histories before after = (error : ℕ) → after.error ≡ Some error → (before.error ≡ Some error) ⊎ CameTo (failure_by error) histories

-- Laws.

-- So it is with whatever happens on a handle of the source, but that it is asked, where its calls lead from one board to the other and the invariant stood;
abbrev pub SourceFails : Type 0
SourceFails = (how : How) (slices : List Slice) (link : ℕ) (event : Event Ticket) (sources sources2 destinations : Histories) (added : List (Call Ticket)) (before after : Seen) (source destination : List Request) →
    AllTrack sources source → AllTrack destinations destination → (before.error ≡ None → Stands how slices before.rows source destination) → is_issue event ≡ false → Happens link event sources sources2 →
    Adds event (sources link) added → OneByOne Files before added after → ToldBy sources2 before after

-- and with whatever happens so on a handle of the destination.
abbrev pub DestinationFails : Type 0
DestinationFails = (how : How) (slices : List Slice) (link : ℕ) (event : Event Ticket) (sources destinations destinations2 : Histories) (added : List (Call Ticket)) (before after : Seen) (source destination : List Request) →
    AllTrack sources source → AllTrack destinations destination → (before.error ≡ None → Stands how slices before.rows source destination) → is_issue event ≡ false → Happens link event destinations destinations2 →
    Adds event (destinations link) added → OneByOne Files before added after → ToldBy destinations2 before after

-- What a command came to stays, whatever happens.
abbrev pub FailuresStay : Type 0
FailuresStay = (why : Failure) (link : ℕ) (event : Event Ticket) (histories histories2 : Histories) → Happens link event histories histories2 → CameTo why histories → CameTo why histories2

-- Where no callback has a say, a failure is known by its number.
abbrev pub FailuresAreKnown : Type 0 → Type 0
FailuresAreKnown K = (asks : Option (commands.Request K)) (own : List (Filing K)) (why : Failure) → failure_of (outcome_of asks own) ≡ Some why → why ≡ failure_by why.error

-- A command that was answered was wholly written, though it failed.
abbrev pub AnsweredIsWritten : Type 0 → Type 0
AnsweredIsWritten K = (history : History K) (cookie : ℕ) (why : Failure) → failure_of (outcome_after history cookie) ≡ Some why → why.origin ≢ from.Lost → nat_le cookie (written history) ≡ true
