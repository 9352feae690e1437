-- Slices: the longest runs of positions that are told the same and that no cut parts.
use Rattle.std.specs.Prelude.{ℕ, zero, suc, ◌+◌, List, [], ◌∷◌, Bool, true, false, not, ◌||◌, if◌then◌else◌}
use Rattle.lnbd_plan.specs.declared.grid.Slice.{Slice}

-- the slice with these positions
abbrev pub slice : ℕ → ℕ → Bool → Slice
slice start n told = record { start = start; length = n; zero = told }

-- whether two answers differ
abbrev pub unlike : Bool → Bool → Bool
unlike true b = not b
unlike false b = b

-- a position in one slice with the first of those behind it
abbrev pub growing : ℕ → Bool → List Slice → List Slice
growing p told [] = slice p 1 told ∷ []
growing p told (s ∷ ss) = slice p (suc s.length) told ∷ ss

-- The slices of so many positions from one on: a position is a slice of its own where the next one is cut off or told
-- otherwise, else it is in one slice with the next one.
unfoldable pub slices_of : (ℕ → Bool) → (ℕ → Bool) → ℕ → ℕ → List Slice
slices_of told cut p zero = []
slices_of told cut p (suc n) =
    if cut (p + 1) || unlike (told p) (told (p + 1)) then slice p 1 (told p) ∷ slices_of told cut (p + 1) n
    else growing p (told p) (slices_of told cut (p + 1) n)
