-- What keeps the slices of a copy spread over its connections: how many are bound to each is counted, and no more are begun than the limit.
use Rattle.std.specs.Prelude.{◌≡◌, ◌<◌, ℕ, List, length, slice_index}
use Rattle.lnbd_board.specs.declared.row.Row.{Row}
use Rattle.lnbd_board.specs.Files as board
use Rattle.lnbd_conduct.specs.declared.sides.Sides.{Sides}
use Rattle.lnbd_copy.specs.Bound.{Bound, bound_to, on_destination, on_source}
use Rattle.lnbd_copy.specs.Job as work
use Rattle.lnbd_copy.specs.Spread.{IsSpread}
use Rattle.lnbd_copy.specs.Windows.{AllFit}
use Rattle.lnbd_conduct.specs.Slices.{cells_of}

-- These are spread over so many connections, and for each the count is how many of them are bound to it.
pub record IsDealt (limit count : ℕ) (counts bound : List ℕ) : Type 0 where
  pub many : length counts ≡ count
  pub counted : (connection : ℕ) → connection < count → slice_index counts connection ≡ bound_to connection bound
  pub spread : IsSpread limit count bound

-- So it is on both sides.
pub record AreDealt (limit : ℕ) (sides : Sides) (bound : Bound) (rows : List (ℕ × Row)) : Type 0 where
  pub source : IsDealt limit sides.source bound.source (on_source rows)
  pub destination : IsDealt limit sides.destination bound.destination (on_destination rows)

-- Where it was so before a step, it is so after it.
pub record Deals (limit : ℕ) (sides : Sides) (old new : Bound) (rows rows' : List (ℕ × Row)) : Type 0 where
  pub on : AreDealt limit sides old rows → AreDealt limit sides new rows'

-- It is so of a job with this board.
abbrev pub HasDealt : work.Seen → board.Seen → Type 0
HasDealt job now = AreDealt job.terms.limit job.terms.sides job.bound now.rows

-- The slices with rows are such as its terms settle.
abbrev pub HasFit : work.Seen → board.Seen → Type 0
HasFit job now = AllFit job.terms.size (cells_of job.terms) now.rows

-- A step of a job leaves it so.
pub record Spreads (old new : work.Seen) (now now' : board.Seen) : Type 0 where
  pub on : HasDealt old now → HasDealt new now'
  pub fit : HasFit old now → HasFit new now'

-- So it is of these rows, whatever the limit.
pub record HaveDealt (sides : Sides) (bound : Bound) (rows : List (ℕ × Row)) : Type 0 where
  pub limit : ℕ
  pub dealt : AreDealt limit sides bound rows
