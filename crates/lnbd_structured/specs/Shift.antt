-- Ranges that are counted from another place.
use Rattle.std.specs.Prelude.{ℕ, ◌+◌, List, [], ◌∷◌}

-- ranges counted from a place on, as places of the export
abbrev pub shift : ℕ → List (ℕ × ℕ) → List (ℕ × ℕ)
shift place [] = []
shift place (range ∷ ranges) = (range.0 + place, range.1) ∷ shift place ranges
