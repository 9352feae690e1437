-- What stands between two turns of a copy from one place to another: beside what was asked, which export each link is of, and what sizes were told.
use Rattle.std.specs.Prelude.{◌≡◌, ℕ, ◌≤◌, Bool, true, false, List, [], ◌∷◌, Option, Some, None, if◌then◌else◌}
use Rattle.lnbd_model.specs.declared.target.Place.{Place}
use Rattle.lnbd_link.specs.Call as wire
use Rattle.lnbd_link.specs.Numbers.{is_given}
use Rattle.lnbd_link.specs.Traffic.{target_of}
use Rattle.lnbd_history.specs.Events.{Event, History}
use Rattle.lnbd_asked.specs.Driven.{Spells, is_inward}
use Rattle.lnbd_asked.specs.Exports.{DrivenIsOf, HasToldSize, name_set}
use Rattle.lnbd_asked.specs.Transcript.{on_link}
use Rattle.lnbd_poll.specs.Alone.{AreApart}
use Rattle.lnbd_poll.specs.Seen.{Seen}
use Rattle.lnbd_drives.specs.Driving.{sets_opt_mode}
use Rattle.lnbd_plan.specs.declared.grid.Slice.{Slice}
use Rattle.lnbd_board.specs.declared.how.How.{How}
use Rattle.lnbd_board.specs.declared.ticket.Ticket.{Ticket}
use Rattle.lnbd_board.specs.Files as board
use Rattle.lnbd_tracks.specs.Laws.{is_coming}
use Rattle.lnbd_tracks.specs.Tracks.{Histories, is_issue}
use Rattle.lnbd_course.specs.Course.{CourseOf, Stood}

-- the place of a side
abbrev pub place_of : (from to : Place) → (source : Bool) → Place
place_of from to source = if source then from else to

-- Each link that a call gave was connected to the address of its side, and the name that was set last on its handle is that of its side's export.
pub record ArePlaced (from to : Place) (calls : List wire.Call) (has : ℕ → Bool) (histories : Histories) : Type 0 where
  pub address : (link : ℕ) → is_given link calls ≡ true → target_of link calls ≡ Some (place_of from to (has link)).to
  pub name : (link : ℕ) → is_given link calls ≡ true → name_set (histories link) ≡ (place_of from to (has link)).name

-- the handle of a link of a side was told this size
pub record SideWasTold (source : Bool) (size : ℕ) (calls : List wire.Call) (has : ℕ → Bool) (histories : Histories) : Type 0 where
  pub link : ℕ
  pub given : is_given link calls ≡ true
  pub side : has link ≡ source
  pub told : HasToldSize (histories link) size

-- The source's size was told, and that of the destination, which is no smaller.
pub record WereTold (size : ℕ) (calls : List wire.Call) (has : ℕ → Bool) (histories : Histories) : Type 0 where
  pub room : ℕ
  pub source : SideWasTold true size calls has histories
  pub destination : SideWasTold false room calls has histories
  pub fits : size ≤ room

-- once the size is settled
abbrev pub AreSettled : Option ℕ → List wire.Call → (ℕ → Bool) → Histories → Type 0
AreSettled None calls has histories = Unit {0}
AreSettled (Some size) calls has histories = WereTold size calls has histories

-- Between two turns the copy is on its course, with these facts of the board; each link is of its side; a link without a handle tells what the handle that it had was
-- told; and this was told of sizes.
pub record BetweenOf (Facts : board.Seen → Histories → Type 0) (Sizes : List wire.Call → Histories → Type 0) (from to : Place) (has : ℕ → Bool) (now : board.Seen) (calls : List wire.Call)
    (seens : List (Seen Ticket)) : Type 0 where
  pub course : CourseOf Facts now calls seens
  pub placed : ArePlaced from to calls has course.histories
  pub parted : (link : ℕ) → AreApart link seens → DrivenIsOf (course.histories link) (on_link link calls)
  pub told : Sizes calls course.histories

-- Of a copy from one export to another both sizes were told, once they are settled.
abbrev pub Between : (from to : Place) → (size : Option ℕ) → How → (has : ℕ → Bool) → List Slice → board.Seen → List wire.Call → List (Seen Ticket) → Type 0
Between from to size how has slices now calls seens = BetweenOf (Stood how has slices) (λ calls histories. AreSettled size calls has histories) from to has now calls seens

-- What a caller does with a handle that neither asks anything nor moves bytes, and leaves opt mode off.
pub record IsSetting (before : History Ticket) (event : Event Ticket) : Type 0 where
  pub inward : is_inward event ≡ true
  pub unasked : is_issue event ≡ false
  pub still : is_coming event ≡ false
  pub spelled : Spells before event
  pub mode : sets_opt_mode event ≡ false

-- nothing else happened
abbrev pub AreSettings : History Ticket → Type 0
AreSettings [] = Unit {0}
AreSettings (event ∷ before) = AreSettings before × IsSetting before event

-- a handle with this link on which this has happened, and to which no byte came
abbrev pub with_history_on : ℕ → History Ticket → Seen Ticket
with_history_on link history = record { link = link; history = history; unread = [] }
