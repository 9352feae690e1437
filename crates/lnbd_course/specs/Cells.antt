-- How large the requests of a copy are: slices are cut at the multiples of a cell, and a request lies in its slice.
use Rattle.std.specs.Prelude.{◌≡◌, ◌≢◌, ◌⊎◌, ◌<◌, ◌≤◌, ◌+◌, ℕ, Bool, false, List, ◌++◌, Option, None, if◌then◌else◌}
use Rattle.lnbd_model.specs.declared.kind.Kind.TheVariants.{Read, Write, Zero}
use Rattle.lnbd_model.specs.declared.target.Place.{Place}
use Rattle.lnbd_callbacks.specs.Steps.{OneByOne}
use Rattle.lnbd_link.specs.Call.{Call}
use Rattle.lnbd_history.specs.Commands.{Command}
use Rattle.lnbd_asked.specs.Link.{Nobody}
use Rattle.lnbd_asked.specs.Transcript.{Dealt, dealt_with}
use Rattle.lnbd_poll.specs.Seen.{Seen}
use Rattle.lnbd_poll.specs.Turns.{Ending, Turns}
use Rattle.lnbd_plan.specs.declared.cells.Cells.{Cells}
use Rattle.lnbd_plan.specs.declared.grid.Slice.{Slice}
use Rattle.lnbd_plan.specs.Plans.{is_multiple}
use Rattle.lnbd_board.specs.declared.how.How.{How}
use Rattle.lnbd_board.specs.declared.ticket.Ticket.{Ticket}
use Rattle.lnbd_board.specs.Files as board
use Rattle.lnbd_board.specs.Requests.{Each}
use Rattle.lnbd_course.specs.Asks.{EachAsked}
use Rattle.lnbd_course.specs.Between.{Between}
use Rattle.lnbd_course.specs.Failed.{AllStand}

-- A request has no more bytes than a cell, and goes over none of its multiples.
pub record IsInCell (cell : ℕ) (command : Command Nobody) : Type 0 where
  pub few : command.length ≤ cell
  pub uncut : (p : ℕ) → command.offset < p → p < command.offset + command.length → is_multiple cell p ≡ false

-- Each READ of a source and each WRITE of a destination is in a cell, and each WRITE_ZEROES is, or in a cell of zeros.
pub record AreInCells (cell zero_cell : ℕ) (source destination : Dealt) : Type 0 where
  pub reads : EachAsked (λ command. command.kind ≡ Read → IsInCell cell command) source
  pub writes : EachAsked (λ command. command.kind ≡ Write → IsInCell cell command) destination
  pub zeroes : EachAsked (λ command. command.kind ≡ Zero → IsInCell cell command ⊎ IsInCell zero_cell command) destination

-- A slice goes over no multiple of the cell of its kind.
abbrev pub IsCut : Cells → Slice → Type 0
IsCut cells slice = (p : ℕ) → slice.start < p → p < slice.start + slice.length → is_multiple (if slice.zero then cells.zero_cell else cells.cell) p ≡ false

-- A part of a turn: where the slices that were begun are cut so, and zeros are cut as bytes are where the destination takes no WRITE_ZEROES, what a copy from one place to
-- another asked is in cells.
abbrev pub PartsAreInCells : Type 0
PartsAreInCells = (from to : Place) (size : Option ℕ) (how : How) (has : ℕ → Bool) (slices : List Slice) (now now' : board.Seen) (calls part : List Call) (before after : List (Seen Ticket)) (ending : Ending) (cells : Cells) →
    Between from to size how has slices now calls before → now.error ≡ None → Turns (OneByOne board.Files) before now part after now' ending → AllStand after → from ≢ to →
    Each (IsCut cells) slices → 0 < cells.cell → 0 < cells.zero_cell → (how.zeroes ≡ false → cells.zero_cell ≡ cells.cell) →
    AreInCells cells.cell cells.zero_cell (dealt_with from (calls ++ part)) (dealt_with to (calls ++ part))
