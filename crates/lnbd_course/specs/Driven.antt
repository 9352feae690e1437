-- Links that one handle drove each.
use Rattle.std.specs.Prelude.{ℕ, Bool, List, [], Option}
use Rattle.lnbd_model.specs.declared.target.Place.{Place}
use Rattle.lnbd_link.specs.Call.{Call}
use Rattle.lnbd_spoken.specs.Driven.{IsDriven}
use Rattle.lnbd_plan.specs.declared.grid.Slice.{Slice}
use Rattle.lnbd_board.specs.declared.how.How.{How}
use Rattle.lnbd_board.specs.declared.ticket.Ticket.{Ticket}
use Rattle.lnbd_board.specs.Files as board
use Rattle.lnbd_course.specs.Between.{Between}

-- By these calls each link was driven by one handle of a copy, or by none.
abbrev pub AreDriven : List Call → Type 0
AreDriven calls = (link : ℕ) → IsDriven Ticket link calls

-- So it is where no handle is held.
abbrev pub EndedAreDriven : Type 0
EndedAreDriven = (from to : Place) (size : Option ℕ) (how : How) (has : ℕ → Bool) (slices : List Slice) (now : board.Seen) (calls : List Call) → Between from to size how has slices now calls [] → AreDriven calls
