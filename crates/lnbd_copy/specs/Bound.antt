-- Which connections the slices of a copy are bound to that are begun and not over, and how many of them it counts for each.
use Rattle.std.specs.Prelude.{ℕ, List, [], ◌∷◌}
use Rattle.lnbd_board.specs.declared.row.Row.{Row}
use Rattle.lnbd_conduct.specs.declared.sides.Sides.{Sides}
pub use Rattle.lnbd_conduct.specs.Fewest.{bound_to}

-- the connection that each row is bound to, of the side where it is this one
abbrev pub bound_by : (on : Row → ℕ) → List (ℕ × Row) → List ℕ
bound_by on [] = []
bound_by on (row ∷ rows) = on row.1 ∷ bound_by on rows

abbrev pub on_source : List (ℕ × Row) → List ℕ
on_source rows = bound_by (λ row. row.source) rows

abbrev pub on_destination : List (ℕ × Row) → List ℕ
on_destination rows = bound_by (λ row. row.destination) rows

-- How many slices are bound to each connection, by the connections' numbers.
pub record Bound : Type 0 where
  pub source : List ℕ
  pub destination : List ℕ

-- What is seen of the slices that are bound to the connections of both sides.
pub record Seen : Type 0 where
  -- how many connections there are
  pub sides : Sides
  pub bound : Bound
