-- By the calls of a copy whose board was told of no error no command failed; and faulty content that they show after a turn is its error.
use Rattle.std.specs.Prelude.{◌≡◌, ℕ, Bool, List, ◌++◌, Option, Some, None}
use Rattle.lnbd_model.specs.declared.errors.TheConstants.{EPROTO}
use Rattle.lnbd_model.specs.declared.failure.Failure.{Failure}
use Rattle.lnbd_model.specs.declared.target.Place.{Place}
use Rattle.lnbd_callbacks.specs.Steps.{OneByOne}
use Rattle.lnbd_link.specs.Call as wire
use Rattle.lnbd_poll.specs.Seen.{Seen}
use Rattle.lnbd_poll.specs.Turns.{Turns, Whole}
use Rattle.lnbd_plan.specs.declared.grid.Slice.{Slice}
use Rattle.lnbd_board.specs.declared.how.How.{How}
use Rattle.lnbd_board.specs.declared.ticket.Ticket.{Ticket}
use Rattle.lnbd_board.specs.Files as board
use Rattle.lnbd_tracks.specs.Failing.{failure_by}
use Rattle.lnbd_course.specs.Failed.{AllStand, SideFails}
use Rattle.lnbd_course.specs.Told.{Known, ToldCourse}

-- By these calls no command that was asked of one of the two places came to a failure.
abbrev pub NothingFails : (from to : Place) → List wire.Call → Type 0
NothingFails from to calls = (why : Failure) → SideFails from to why calls → ⊥

-- So it is while a copy's board was told of no error.
abbrev pub UnfailedShows : Type 0
UnfailedShows = (from to : Place) (how : How) (has : ℕ → Bool) (slices : List Slice) (now : board.Seen) (calls : List wire.Call) (seens : List (Seen Ticket)) (wanted : Option (ℕ × ℕ)) (known : Known) →
    ToldCourse how has slices now calls seens wanted known → AllStand seens → now.error ≡ None → NothingFails from to calls

-- Where the calls show after a turn that a command came to faulty content, that is the error of a board that had none, whatever else it was told.
abbrev pub TurnsTellContent : Type 0
TurnsTellContent = (from to : Place) (how : How) (has : ℕ → Bool) (slices : List Slice) (now now' : board.Seen) (calls part : List wire.Call) (before after : List (Seen Ticket)) (wanted : Option (ℕ × ℕ)) (known : Known) (moved : Option ℕ) →
    ToldCourse how has slices now calls before wanted known → now.error ≡ None → Turns (OneByOne board.Files) before now part after now' (Whole moved) → AllStand after → SideFails from to (failure_by EPROTO) (calls ++ part) → now'.error ≡ Some EPROTO
