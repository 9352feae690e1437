-- What stands between two turns of a copy: what was asked on each link, by the histories of its handles, is what the board's rows say.
use Rattle.std.specs.Prelude.{◌≡◌, ◌==◌, ℕ, ◌≤◌, ◌<◌, Bool, true, false, not, List, [], ◌∷◌, Some, None, if◌then◌else◌, nat_le}
use Rattle.lnbd_model.specs.declared.target.Place.{Place}
use Rattle.lnbd_link.specs.Call as wire
use Rattle.lnbd_link.specs.Numbers.{is_given}
use Rattle.lnbd_history.specs.Commands as commands
use Rattle.lnbd_history.specs.History.{request}
use Rattle.lnbd_asked.specs.Driven.{DrivenSays, written}
use Rattle.lnbd_asked.specs.Transcript.{is_of, on_link, dealt_with}
use Rattle.lnbd_spoken.specs.Driven.{IsDriven}
use Rattle.lnbd_poll.specs.Alone.{AreApart, calls_on}
use Rattle.lnbd_poll.specs.Seen.{Seen}
use Rattle.lnbd_drives.specs.Driving.{DriveOwnLinks}
use Rattle.lnbd_plan.specs.declared.cells.Cells.{Cells}
use Rattle.lnbd_plan.specs.declared.grid.Slice.{Slice}
use Rattle.lnbd_plan.specs.Laws.{Window, windows_slices, windows_end, told_by}
use Rattle.lnbd_board.specs.declared.how.How.{How}
use Rattle.lnbd_board.specs.declared.ticket.Ticket.{Ticket}
use Rattle.lnbd_board.specs.Files as board
use Rattle.lnbd_board.specs.Holds.{WasToldZero, WasToldSize}
use Rattle.lnbd_board.specs.Requests.{Request}
use Rattle.lnbd_board.specs.Rows.{Stands}
use Rattle.lnbd_tracks.specs.Tracks.{Histories, AllTrack}
use Rattle.lnbd_course.specs.Counted.{IsCounted}
use Rattle.lnbd_course.specs.Flushed.{HasDoneFlush}

-- The two sides.

-- the histories of the handles on the links of a side, and no others
abbrev pub on_side : (ℕ → Bool) → Histories → Histories
on_side has histories link = if has link then histories link else []

-- the links of the destination are those that aren't the source's
abbrev pub beside : (ℕ → Bool) → ℕ → Bool
beside has link = not (has link)

-- a link more, which is the source's or the destination's
abbrev pub with_link : ℕ → Bool → (ℕ → Bool) → ℕ → Bool
with_link link source has other = if link == other then source else has other

-- What both sides were asked, by the histories of all handles, is what the rows of the board say, if no error was told; the board counts its bytes; and
-- where it was told, and no error, that its flush was answered, a FLUSH of the destination is done.
pub record Stood (how : How) (has : ℕ → Bool) (slices : List Slice) (now : board.Seen) (histories : Histories) : Type 0 where
  pub source : List Request
  pub destination : List Request
  pub reads : AllTrack (on_side has histories) source
  pub changes : AllTrack (on_side (beside has) histories) destination
  pub stands : now.error ≡ None → Stands how slices now.rows source destination
  pub counted : IsCounted now source destination
  pub flushed : now.error ≡ None → now.flushed ≡ true → HasDoneFlush destination

-- The handles.

-- Each handle that is held has the history of its link.
abbrev pub AllHave : Histories → List (Seen Ticket) → Type 0
AllHave histories [] = Unit {0}
AllHave histories (seen ∷ others) = (histories seen.link ≡ seen.history) × AllHave histories others

-- On a link that no call gave nothing happened, and no handle has it.
pub record IsUnused (calls : List wire.Call) (seens : List (Seen Ticket)) (histories : Histories) (link : ℕ) : Type 0 where
  pub apart : AreApart link seens
  pub quiet : calls_on link calls ≡ []
  pub blank : histories link ≡ []

-- Between two turns: by these calls the handles drive links of their own; a link without a handle says what the history of the handle says that it had, if
-- it had one, and was driven by that handle alone; and these facts stand of the board and of the histories on all links.
pub record CourseOf (Facts : board.Seen → Histories → Type 0) (now : board.Seen) (calls : List wire.Call) (seens : List (Seen Ticket)) : Type 0 where
  pub histories : Histories
  pub held : AllHave histories seens
  pub drive : DriveOwnLinks calls seens
  pub parted : (link : ℕ) → AreApart link seens → DrivenSays (histories link) (on_link link calls)
  pub unused : (link : ℕ) → is_given link calls ≡ false → IsUnused calls seens histories link
  pub stood : Facts now histories
  pub driven : (link : ℕ) → AreApart link seens → IsDriven Ticket link calls

-- Between two turns of a copy from one export to another what both sides were asked is what the board's rows say.
abbrev pub Course : How → (has : ℕ → Bool) → List Slice → board.Seen → List wire.Call → List (Seen Ticket) → Type 0
Course how has slices now calls seens = CourseOf (Stood how has slices) now calls seens

-- The end.

-- Each link on which a command was wholly written is of its side's export, and no link of the other side is.
pub record AreOfSides (from to : Place) (calls : List wire.Call) (has : ℕ → Bool) (histories : Histories) : Type 0 where
  pub asked : (link cookie : ℕ) (asks : commands.Request Ticket) → request (histories link) cookie ≡ Some asks → nat_le cookie (written (histories link)) ≡ true → is_of (if has link then from else to) calls link ≡ true
  pub source : (link : ℕ) → is_of from calls link ≡ true → has link ≡ true
  pub destination : (link : ℕ) → is_of to calls link ≡ true → has link ≡ false

-- The source was planned whole, window by window, as it was told: what was told zero was told so by a block status that is done. Zeros are left out only where
-- the destination reads as zeroes.
pub record IsPlannedWhole (how : How) (cells : Cells) (windows : List Window) (from : Place) (calls : List wire.Call) (size : ℕ) (slices : List Slice) : Type 0 where
  pub are : slices ≡ windows_slices cells 0 windows
  pub whole : windows_end 0 windows ≡ size
  pub told : (p : ℕ) → p < size → told_by 0 windows p ≡ true → WasToldZero (dealt_with from calls) p
  pub left_out : cells.zeros ≡ false → how.skip ≡ true

-- Both sides told their sizes, and the destination is no smaller.
pub record HaveSizes (from to : Place) (calls : List wire.Call) (size : ℕ) : Type 0 where
  pub room : ℕ
  pub source : WasToldSize (dealt_with from calls) size
  pub destination : WasToldSize (dealt_with to calls) room
  pub fits : size ≤ room

-- A copy is finished: all is planned, nothing is begun and not over, no error was told, and no handle is held.
pub record IsFinished (from to : Place) (how : How) (calls : List wire.Call) : Type 0 where
  pub has : ℕ → Bool
  pub slices : List Slice
  pub now : board.Seen
  pub cells : Cells
  pub windows : List Window
  pub size : ℕ
  pub course : Course how has slices now calls []
  pub over : now.rows ≡ []
  pub well : now.error ≡ None
  pub sides : AreOfSides from to calls has course.histories
  pub planned : IsPlannedWhole how cells windows from calls size slices
  pub sizes : HaveSizes from to calls size
