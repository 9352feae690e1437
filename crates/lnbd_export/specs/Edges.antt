-- Edges: positions at which what is told turns. From the first on positions are told as zero, from the second on they aren't, and so on. No other crate cites
-- these.
use Rattle.std.specs.Prelude.{ℕ, suc, ◌+◌, ◌%◌, ◌<◌, ◌≤◌, Bool, true, false, not, List, [], ◌∷◌, ◌++◌, if◌then◌else◌, nat_lt, ◌==◌, length, get_or, min}
use Rattle.std.specs.List.{splice}

-- how many of them lie below a position
abbrev pub below : ℕ → List ℕ → ℕ
below p [] = 0
below p (edge ∷ edges) = if nat_lt edge p then suc (below p edges) else below p edges

abbrev pub is_odd : ℕ → Bool
is_odd n = n % 2 == 1

-- whether a position is told as zero: an odd number of edges lies there or before it
abbrev pub is_told : List ℕ → ℕ → Bool
is_told edges p = is_odd (below (p + 1) edges)

-- They rise, from a position on.
abbrev pub Rise : ℕ → List ℕ → Type 0
Rise m [] = Unit {0}
Rise m (edge ∷ edges) = (m ≤ edge) × Rise (edge + 1) edges

-- each lies below a position
abbrev pub AreBelow : ℕ → List ℕ → Type 0
AreBelow p [] = Unit {0}
AreBelow p (edge ∷ edges) = (edge < p) × AreBelow p edges

abbrev pub differ : Bool → Bool → Bool
differ true b = not b
differ false b = b

abbrev pub edge_if : Bool → ℕ → List ℕ
edge_if true edge = edge ∷ []
edge_if false edge = []

-- the edges where from one position up to another this is told: one stands at each of the two where what is told beside them differs
abbrev pub turned : (start end : ℕ) → Bool → List ℕ → List ℕ
turned start end zero edges =
    splice edges (below start edges) (below (end + 1) edges)
    (edge_if (differ (is_odd (below start edges)) zero) start ++ edge_if (differ (is_odd (below (end + 1) edges)) zero) end)

-- the edge at a place, but no further than the end
abbrev pub edge_at : List ℕ → ℕ → ℕ → ℕ
edge_at edges place end = if nat_lt place (length edges) then min (get_or edges place 0) end else end
