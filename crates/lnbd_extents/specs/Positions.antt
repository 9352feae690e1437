-- Which positions are held. A range is its start and its length.
use Rattle.std.specs.Prelude.{ℕ, zero, suc, ◌+◌, List, [], ◌∷◌, Bool, true, false, ◌&&◌, ◌||◌, nat_le, nat_lt}

-- whether a position lies in a range
abbrev pub within : ℕ × ℕ → ℕ → Bool
within r p = nat_le r.0 p && nat_lt p (r.0 + r.1)

-- whether a position is held by some range
abbrev pub holds : List (ℕ × ℕ) → ℕ → Bool
holds [] p = false
holds (r ∷ rs) p = within r p || holds rs p

-- whether the test holds at some of the n positions from s on
abbrev pub any_at : (ℕ → Bool) → ℕ → ℕ → Bool
any_at test s zero = false
any_at test s (suc n) = test s || any_at test (s + 1) n

-- whether the test holds at all of the n positions from s on
abbrev pub all_at : (ℕ → Bool) → ℕ → ℕ → Bool
all_at test s zero = true
all_at test s (suc n) = test s && all_at test (s + 1) n
