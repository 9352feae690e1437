-- A link that one handle drove stays so when the handle is gone.
use Rattle.std.proofs.Common.{◌≡◌, ℕ, List, [], ◌++◌, Some, slice_get, refl}
use Rattle.lnbd_link.specs.Call as wire
use Rattle.lnbd_machine.specs.Machine.{Machine}
use Rattle.lnbd_standing.specs.Standing.{StandsFor}
use Rattle.lnbd_asked.specs.Driven.{Begins}
use Rattle.lnbd_poll.specs.Alone.{calls_on}
use Rattle.lnbd_poll.specs.Seen.{Seen}
use Rattle.lnbd_drives.specs.Driving.{DriveOwnLinks}
use Rattle.lnbd_drives.proofs.Passing.{passes}
use Rattle.lnbd_drives.proofs.Saying.{one_of}
use Rattle.lnbd_spoken.specs.Driven.{IsDriven}
use Rattle.lnbd_board.specs.declared.ticket.Ticket.{Ticket}
use Rattle.lnbd_course.specs.Driven.{EndedAreDriven}

-- before any call, by a handle to which nothing happened
pub nothing_driven : (link : ℕ) → IsDriven Ticket link []
nothing_driven link = record { limit = 0; history = []; unread = []; lawful = tt; spelled = tt; mode = refl; drives = Begins }

-- Calls on other links change nothing.
pub driven_stays : (link : ℕ) (calls more : List wire.Call) → calls_on link more ≡ [] → IsDriven Ticket link calls → IsDriven Ticket link (calls ++ more)
driven_stays link calls more none d = record {
  limit = d.limit;
  history = d.history;
  unread = d.unread;
  lawful = d.lawful;
  spelled = d.spelled;
  mode = d.mode;
  drives = passes link calls d.history d.unread more d.drives none;
}

-- A handle that stands for its history drove its link.
pub handle_drove : (limit : ℕ) (calls : List wire.Call) (seens : List (Seen Ticket)) (index : ℕ) (seen : Seen Ticket) (handle : Machine Ticket) →
    DriveOwnLinks calls seens → slice_get seens index ≡ Some seen → StandsFor limit seen.history handle → IsDriven Ticket seen.link calls
handle_drove limit calls seens index seen handle d there stands =
    let one = one_of calls seens index seen there d.drive d.plain in
    record {
      limit = limit;
      history = seen.history;
      unread = seen.unread;
      lawful = stands.lawful;
      spelled = one.plain.spelled;
      mode = one.plain.mode;
      drives = one.drives;
    }

pub ended_are_driven : EndedAreDriven
ended_are_driven from to size how has slices now calls b link = b.course.driven link tt
