-- What happens on the handles of one side of a copy, where the other side is whatever it is.
use Rattle.std.specs.Prelude.{◌≡◌, ℕ, false, List, None}
use Rattle.lnbd_callbacks.specs.Calls.{Call}
use Rattle.lnbd_callbacks.specs.Steps.{OneByOne}
use Rattle.lnbd_history.specs.Events.{Event}
use Rattle.lnbd_board.specs.declared.how.How.{How}
use Rattle.lnbd_board.specs.declared.ticket.Ticket.{Ticket}
use Rattle.lnbd_board.specs.Asks.{Keeps}
use Rattle.lnbd_board.specs.Files.{Seen, Files}
use Rattle.lnbd_board.specs.Requests.{Request}
use Rattle.lnbd_tracks.specs.Tracks.{Histories, AllTrack, Happens, Adds, is_issue}

-- There is a list that the handles then track, and over which, with the other side's list as it was, the invariant that held still holds, if no error was told; then none was before.
pub record KeepingSource (how : How) (before : Seen) (source destination : List Request) (after : Seen) (sources : Histories) : Type 0 where
  pub source2 : List Request
  pub reads : AllTrack sources source2
  pub earlier : after.error ≡ None → before.error ≡ None
  pub keeps : after.error ≡ None → Keeps how before.rows source destination after.rows source2 destination

pub record KeepingDestination (how : How) (before : Seen) (source destination : List Request) (after : Seen) (destinations : Histories) : Type 0 where
  pub destination2 : List Request
  pub changes : AllTrack destinations destination2
  pub earlier : after.error ≡ None → before.error ≡ None
  pub keeps : after.error ≡ None → Keeps how before.rows source destination after.rows source destination2

abbrev pub SourceAloneKeeps : Type 0
SourceAloneKeeps = (how : How) (link : ℕ) (event : Event Ticket) (sources sources2 : Histories) (added : List (Call Ticket)) (before after : Seen) (source destination : List Request) →
    AllTrack sources source → is_issue event ≡ false → Happens link event sources sources2 → Adds event (sources link) added → OneByOne Files before added after
    → KeepingSource how before source destination after sources2

abbrev pub DestinationAloneKeeps : Type 0
DestinationAloneKeeps = (how : How) (link : ℕ) (event : Event Ticket) (destinations destinations2 : Histories) (added : List (Call Ticket)) (before after : Seen)
    (source destination : List Request) →
    AllTrack destinations destination → is_issue event ≡ false → Happens link event destinations destinations2 → Adds event (destinations link) added → OneByOne Files before added after
    → KeepingDestination how before source destination after destinations2
