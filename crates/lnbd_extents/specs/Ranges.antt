-- Ranges that are the longest ones: they rise, none is empty, and no two touch.
use Rattle.std.specs.Prelude.{ℕ, ◌+◌, ◌-◌, ◌<◌, ◌≤◌, List, [], ◌∷◌, ◌++◌, if◌then◌else◌, nat_lt, ◌==◌, min, max}
use Rattle.std.specs.List.{flat_map}

-- Each range begins at this position or after it, has positions, and the next one begins after its end.
abbrev pub IsFrom : ℕ → List (ℕ × ℕ) → Type 0
IsFrom m [] = Unit {0}
IsFrom m (r ∷ rs) = (m ≤ r.0) × (0 < r.1) × IsFrom (r.0 + r.1 + 1) rs

-- each range ends at this position or before it
abbrev pub AreUpTo : ℕ → List (ℕ × ℕ) → Type 0
AreUpTo s [] = Unit {0}
AreUpTo s (r ∷ rs) = (r.0 + r.1 ≤ s) × AreUpTo s rs

-- the ranges with these positions beside, in one range with the neighbours that they touch
abbrev pub adding : ℕ → ℕ → List (ℕ × ℕ) → List (ℕ × ℕ)
adding s n [] = (s, n) ∷ []
adding s n (r ∷ rs) =
    if nat_lt (s + n) r.0 then (s, n) ∷ r ∷ rs
    else if s + n == r.0 then (s, n + r.1) ∷ rs
    else if r.0 + r.1 == s then adding r.0 (r.1 + n) rs
    else r ∷ adding s n rs

-- the ranges with these positions beside, if there are any
abbrev pub with_positions : ℕ → ℕ → List (ℕ × ℕ) → List (ℕ × ℕ)
with_positions s n rs = if n == 0 then rs else adding s n rs

-- what of a range lies before s, and what lies from e on
abbrev pub front_piece : ℕ → ℕ × ℕ → List (ℕ × ℕ)
front_piece s r = if nat_lt r.0 s then (r.0, min (r.0 + r.1) s - r.0) ∷ [] else []

abbrev pub back_piece : ℕ → ℕ × ℕ → List (ℕ × ℕ)
back_piece e r = if nat_lt e (r.0 + r.1) then (max r.0 e, r.0 + r.1 - max r.0 e) ∷ [] else []

-- the ranges without the positions from s up to e
abbrev pub taking_away : ℕ → ℕ → List (ℕ × ℕ) → List (ℕ × ℕ)
taking_away s e rs = flat_map (λ r. front_piece s r ++ back_piece e r) rs
