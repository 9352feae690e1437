-- Which handle of a copy is which connection.
use Rattle.std.specs.Prelude.{ℕ, Bool, ◌&&◌, ◌||◌, ◌==◌, nat_lt, nat_le, ◌-◌, if◌then◌else◌}
use Rattle.lnbd_conduct.specs.declared.sides.Sides.{Sides}

-- The first handle is the source's first connection and the second the destination's; behind them stand the others of the source, and then those of the
-- destination.
abbrev pub is_source : Sides → ℕ → Bool
is_source sides index = (index == 0) || (nat_lt 1 index && nat_le index sides.source)

-- which connection of its side the handle at this place is: the first of each is 0
abbrev pub connection_of : Sides → (index : ℕ) → ℕ
connection_of sides index = if is_source sides index then index - 1 else (if index == 1 then 0 else index - sides.source)

-- the first connection of the side that a handle is on
abbrev pub first_of : Sides → (index : ℕ) → ℕ
first_of sides index = if is_source sides index then 0 else 1
