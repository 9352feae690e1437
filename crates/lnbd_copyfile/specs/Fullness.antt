-- What keeps as much under way as may be, in a copy from an export to a file: bridges between its steps.
use Rattle.std.specs.Prelude.{◌≡◌, List, None}
use Rattle.lnbd_plan.specs.declared.grid.Slice.{Slice}
use Rattle.lnbd_board.specs.declared.how.How.{How}
use Rattle.lnbd_board.specs.Files as board
use Rattle.lnbd_board.specs.Requests.{Request}
use Rattle.lnbd_board.specs.Rows.{Stands}

-- Where the board's rows say what was asked of both sides, a step of it brings no error.
pub record StaysWell (how : How) (now now' : board.Seen) : Type 0 where
  pub on : (slices : List Slice) (source destination : List Request) → Stands how slices now.rows source destination → now.error ≡ None → now'.error ≡ None
