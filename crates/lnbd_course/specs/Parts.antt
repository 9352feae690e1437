-- What the calls of a copy ask that ends with a fault, be it in the middle of a turn.
use Rattle.std.specs.Prelude.{◌≡◌, ◌≢◌, ◌⊎◌, ◌≤◌, ℕ, Bool, false, List, ◌++◌, Some, None}
use Rattle.lnbd_model.specs.declared.target.Place.{Place}
use Rattle.lnbd_callbacks.specs.Steps.{OneByOne}
use Rattle.lnbd_link.specs.Call as wire
use Rattle.lnbd_asked.specs.Transcript.{asked_on, dealt_with, on_link}
use Rattle.lnbd_poll.specs.Seen.{Seen}
use Rattle.lnbd_poll.specs.Turns.{Ending, Turns}
use Rattle.lnbd_plan.specs.declared.cells.Cells.{Cells}
use Rattle.lnbd_plan.specs.declared.grid.Slice.{Slice}
use Rattle.lnbd_plan.specs.Laws.{IsPlannedOnce}
use Rattle.lnbd_board.specs.declared.how.How.{How}
use Rattle.lnbd_board.specs.declared.ticket.Ticket.{Ticket}
use Rattle.lnbd_board.specs.Files as board
use Rattle.lnbd_board.specs.Holds.{WasToldSize}
use Rattle.lnbd_course.specs.Asks.{AreAskedOnce, AreOwnLinks, HasAskedOnce}
use Rattle.lnbd_course.specs.Between.{Between}
use Rattle.lnbd_course.specs.Failed.{AllStand}
use Rattle.lnbd_course.specs.Flushes.{IsUnflushed, OneFlushes}
use Rattle.lnbd_course.specs.Spares.{WritesNoZeros}

-- No request was wholly written on any link.
abbrev pub NothingWasAsked : List wire.Call → Type 0
NothingWasAsked calls = (link cookie : ℕ) → asked_on (on_link link calls) cookie ≡ None

-- On links of their own these calls asked nothing yet, or what they asked of both places was asked once.
pub record AsksAtMostOnce (allocated skip : Bool) (from to : Place) (calls : List wire.Call) : Type 0 where
  pub links : AreOwnLinks from to calls
  pub asked : NothingWasAsked calls ⊎ HasAskedOnce allocated skip from to calls

-- The export was asked to flush once at most.
abbrev pub FlushesAtMostOnce : Place → List wire.Call → Type 0
FlushesAtMostOnce place calls = OneFlushes (dealt_with place calls)

-- Laws. In a turn, whole or short, nothing is written but what handles had been asked before it.

-- What is asked of both exports is asked once, of the source nothing behind the end of what is planned; no WRITE has a block of zeros that was found; and the
-- destination is asked to flush once at most, and only where the board says so.
pub record PartAsksOnce (how : How) (flushing : Bool) (from to : Place) (size end : ℕ) (calls : List wire.Call) : Type 0 where
  pub links : AreOwnLinks from to calls
  pub told : WasToldSize (dealt_with from calls) size
  pub asked : AreAskedOnce how.allocated how.skip end (dealt_with from calls) (dealt_with to calls)
  pub dense : WritesNoZeros how (dealt_with to calls)
  pub flushes : FlushesAtMostOnce to calls
  pub unflushed : flushing ≡ false → IsUnflushed to calls

-- So it is after a part of a turn from a board without an error, where the slices that were begun, with those still to come, plan no position twice.
abbrev pub PartsAskOnce : Type 0
PartsAskOnce = (from to : Place) (size : ℕ) (how : How) (has : ℕ → Bool) (slices rest : List Slice) (now now' : board.Seen) (calls part : List wire.Call) (before after : List (Seen Ticket)) (ending : Ending) (cells : Cells) (told : ℕ → Bool) (end : ℕ) →
    Between from to (Some size) how has slices now calls before → now.error ≡ None → Turns (OneByOne board.Files) before now part after now' ending → AllStand after → ((p : ℕ) → IsPlannedOnce cells told 0 end p (slices ++ rest)) → end ≤ size → from ≢ to →
    PartAsksOnce how now.flushing from to size end (calls ++ part)
