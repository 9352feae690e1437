-- What stands between two steps of a copy of which one side is a file: by what its handles were asked and told so far, and by what was done of its file, what its board holds is so. All of this stands
-- between the steps of the code: no claim names it.
use Rattle.std.specs.Prelude.{◌≡◌, ℕ, ◌++◌, List, length, Option}
use Rattle.lnbd_model.specs.declared.target.Place.{Place}
use Rattle.lnbd_link.specs.Call as wire
use Rattle.lnbd_poll.specs.Held.{Held, AreAt}
use Rattle.lnbd_poll.specs.Seen.{Seen}
use Rattle.lnbd_plan.specs.declared.grid.Slice.{Slice}
use Rattle.lnbd_board.specs.declared.how.How.{How}
use Rattle.lnbd_board.specs.declared.ticket.Ticket.{Ticket}
use Rattle.lnbd_board.specs.Files as board
use Rattle.lnbd_course.specs.Far.{Far}
use Rattle.lnbd_course.specs.FarCourse.{FarCourse}
use Rattle.lnbd_course.specs.Told.{Known}

-- How far a copy is.
pub record Way : Type 0 where
  -- the export
  pub at : Place
  -- its size, once it is settled
  pub size : Option ℕ
  pub how : How
  -- the slices that were begun, in the order of their numbers
  pub slices : List Slice
  -- the range whose extents were asked for, until they are heard: where it begins, and its length
  pub asked : Option (ℕ × ℕ)
  -- what is known of the export's extents
  pub known : Known

-- After these calls of its own a copy is so far, this was done of its file, its board is this, and these are its handles.
pub record IsUnderWay (far : Far) (way : Way) (now : board.Seen) (calls : List wire.Call) (held : List (Held Ticket)) : Type 0 where
  pub seens : List (Seen Ticket)
  pub at : AreAt held seens
  pub begun : length way.slices ≡ now.begun
  pub stands : FarCourse far way.at way.size way.how way.slices now calls seens way.asked way.known

-- these slices were begun behind the others
abbrev pub with_slices : List Slice → Way → Way
with_slices more way = record way { slices = way.slices ++ more }
