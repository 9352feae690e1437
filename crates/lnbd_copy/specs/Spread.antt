-- How the slices of a copy that are begun and not over are spread over the connections of each side.
use Rattle.std.specs.Prelude.{◌≡◌, ◌<◌, ◌≤◌, ℕ, List, Option, Some}
use Rattle.std.specs.List.{All}
use Rattle.lnbd_board.specs.declared.row.Row.{Row}
use Rattle.lnbd_board.specs.Files as board
use Rattle.lnbd_conduct.specs.declared.terms.Terms.{Terms}
use Rattle.lnbd_copy.specs.Bound.{bound_to, on_destination, on_source}
use Rattle.lnbd_copy.specs.Job as work
use Rattle.lnbd_conduct.specs.Shares.{rounded_up}

-- Each of these is one of so many connections, and none of them is there more often than the limit divided by their number, rounded up.
pub record IsSpread (limit count : ℕ) (bound : List ℕ) : Type 0 where
  pub within : All (λ connection. connection < count) bound
  pub few : (connection : ℕ) → bound_to connection bound ≤ rounded_up limit count

-- So are the connections of each side that rows are bound to.
pub record AreSpreadBy (terms : Terms) (rows : List (ℕ × Row)) : Type 0 where
  pub source : IsSpread terms.limit terms.sides.source (on_source rows)
  pub destination : IsSpread terms.limit terms.sides.destination (on_destination rows)

-- Once it is settled how a copy is made, on no connection are more slices begun and not over than the limit divided by the number of its side's connections, rounded up.
pub record AreSpread (job : Option work.Seen) (now : board.Seen) : Type 0 where
  pub spread : (one : work.Seen) → job ≡ Some one → AreSpreadBy one.terms now.rows
