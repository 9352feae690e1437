-- What stands between two turns of a copy from an export to a file, or from a file to an export.
use Rattle.std.specs.Prelude.{ℕ, Bool, true, List, Option, Some, None}
use Rattle.lnbd_model.specs.declared.target.Place.{Place}
use Rattle.lnbd_link.specs.Call as wire
use Rattle.lnbd_poll.specs.Seen.{Seen}
use Rattle.lnbd_plan.specs.declared.grid.Slice.{Slice}
use Rattle.lnbd_board.specs.declared.how.How.{How}
use Rattle.lnbd_board.specs.declared.ticket.Ticket.{Ticket}
use Rattle.lnbd_board.specs.Files as board
use Rattle.lnbd_tracks.specs.Tracks.{Histories}
use Rattle.lnbd_course.specs.Between.{BetweenOf, SideWasTold}
use Rattle.lnbd_course.specs.Far.{Far, FarStood}
use Rattle.lnbd_course.specs.Told.{Known, Knows}

-- each link is one of the export
abbrev pub every : ℕ → Bool
every link = true

-- the handle of one was told its size, once that is settled
abbrev pub IsSettled : Option ℕ → List wire.Call → Histories → Type 0
IsSettled None calls histories = Unit {0}
IsSettled (Some size) calls histories = SideWasTold true size calls every histories

-- Between two turns: each link is of the export, which is at this place; what it was asked, with what was asked of the file, is what the board's rows say; and of its
-- extents is known what `Told` says of a source.
abbrev pub FarCourse : Far → (at : Place) → (size : Option ℕ) → How → List Slice → board.Seen → List wire.Call → List (Seen Ticket) → (wanted : Option (ℕ × ℕ)) → Known → Type 0
FarCourse far at size how slices now calls seens wanted known = BetweenOf (Knows (FarStood far how slices) every wanted known) (IsSettled size) at at every now calls seens
