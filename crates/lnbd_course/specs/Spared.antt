-- What a copy spares of its source also where it ends with a fault, be it in the middle of a turn.
use Rattle.std.specs.Prelude.{◌≡◌, ◌≢◌, ◌<◌, ◌≤◌, ℕ, Bool, true, List, ◌++◌, Option, Some, None}
use Rattle.lnbd_model.specs.declared.target.Place.{Place}
use Rattle.lnbd_callbacks.specs.Steps.{OneByOne}
use Rattle.lnbd_link.specs.Call.{Call}
use Rattle.lnbd_asked.specs.Transcript.{dealt_with}
use Rattle.lnbd_poll.specs.Seen.{Seen}
use Rattle.lnbd_poll.specs.Turns.{Ending, Turns}
use Rattle.lnbd_plan.specs.declared.cells.Cells.{Cells}
use Rattle.lnbd_plan.specs.declared.grid.Slice.{Slice}
use Rattle.lnbd_plan.specs.Laws.{IsPlannedOnce}
use Rattle.lnbd_board.specs.declared.how.How.{How}
use Rattle.lnbd_board.specs.declared.ticket.Ticket.{Ticket}
use Rattle.lnbd_board.specs.Files as board
use Rattle.lnbd_board.specs.Requests.{Request}
use Rattle.lnbd_course.specs.Between.{Between}
use Rattle.lnbd_course.specs.Failed.{AllStand}
use Rattle.lnbd_course.specs.Far.{ToFile}
use Rattle.lnbd_course.specs.FarCourse.{FarCourse}
use Rattle.lnbd_course.specs.Spares.{ReadsNoZeros}
use Rattle.lnbd_course.specs.Told.{Known, ToldCourse}

-- The range, if there is one, begins no earlier than here.
abbrev pub IsBehind : (end : ℕ) → (range : Option (ℕ × ℕ)) → Type 0
IsBehind end None = Unit {0}
IsBehind end (Some range) = end ≤ range.0

-- After a part of a turn from a board without an error, where each block of this size that is known is planned as zero as far as anything is planned, where the
-- slices that were begun, with those still to come, plan no position twice, and where extents are waited for only behind what is planned, no READ covers a
-- position of a block that one answer told as zero whole.
abbrev pub PartsSpare : Type 0
PartsSpare = (from to : Place) (size : Option ℕ) (how : How) (has : ℕ → Bool) (slices rest : List Slice) (now now' : board.Seen) (calls part : List Call) (before after : List (Seen Ticket)) (ending : Ending) (cells : Cells) (told : ℕ → Bool) (end block : ℕ) (wanted : Option (ℕ × ℕ)) (known : Known) →
    Between from to size how has slices now calls before → ToldCourse how has slices now calls before wanted known → now.error ≡ None → Turns (OneByOne board.Files) before now part after now' ending → AllStand after → ((p : ℕ) → IsPlannedOnce cells told 0 end p (slices ++ rest)) → from ≢ to →
    0 < block → ((p : ℕ) → known.whole block p ≡ true → p < end → told p ≡ true) → IsBehind end wanted → ReadsNoZeros block (dealt_with from (calls ++ part))

-- The slices that were begun, with those still to come, plan no position twice; each block of this size that is known is planned as zero as far as anything is planned; and extents are waited for
-- only behind what is planned.
pub record PlansToSpare (block : ℕ) (slices : List Slice) (wanted : Option (ℕ × ℕ)) (known : Known) : Type 0 where
  pub rest : List Slice
  pub cells : Cells
  pub told : ℕ → Bool
  pub end : ℕ
  pub once : (p : ℕ) → IsPlannedOnce cells told 0 end p (slices ++ rest)
  pub some : 0 < block
  pub zeros : (p : ℕ) → known.whole block p ≡ true → p < end → told p ≡ true
  pub behind : IsBehind end wanted

-- So it is after a part of a turn of a copy to a file.
abbrev pub PartsSpareFar : Type 0
PartsSpareFar = (done : List Request) (at : Place) (size : Option ℕ) (how : How) (slices : List Slice) (now now' : board.Seen) (calls part : List Call) (before after : List (Seen Ticket)) (ending : Ending)
    (block : ℕ) (wanted : Option (ℕ × ℕ)) (known : Known) →
    FarCourse (ToFile done) at size how slices now calls before wanted known → now.error ≡ None → Turns (OneByOne board.Files) before now part after now' ending → AllStand after →
    PlansToSpare block slices wanted known → ReadsNoZeros block (dealt_with at (calls ++ part))
