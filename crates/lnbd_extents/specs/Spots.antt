-- Where positions lie among the ranges, as this crate's code looks for them. No other crate cites these.
use Rattle.std.specs.Prelude.{◌≡◌, ℕ, ◌+◌, ◌-◌, ◌⊎◌, ◌<◌, ◌≤◌, List, [], ◌∷◌, Bool, true, false, ◌&&◌, ◌||◌, if◌then◌else◌, nat_le, nat_lt, length, get_or, slice_set}
use Rattle.std.specs.List.{insert, remove}
use Rattle.lnbd_extents.specs.declared.places.Side.{Side}
use Rattle.lnbd_extents.specs.declared.places.Side.TheVariants.{Joins, Meets}
use Rattle.lnbd_extents.specs.declared.places.Side.TheVariants.{Apart as Off}
use Rattle.lnbd_extents.specs.declared.places.Spot.{Spot}
use Rattle.lnbd_extents.specs.declared.places.Spot.TheVariants.{Overlap, Apart, Before, After, Between}
use Rattle.lnbd_extents.specs.Ranges.{adding}

-- whether two ranges have a position in common, where neither is empty
abbrev pub crosses : ℕ → ℕ → ℕ × ℕ → Bool
crosses s n r = nat_lt r.0 (s + n) && nat_lt s (r.0 + r.1)

-- whether some of these positions is held
abbrev pub meets : ℕ → ℕ → List (ℕ × ℕ) → Bool
meets s n [] = false
meets s n (r ∷ rs) = crosses s n r || meets s n rs

-- whether one of the ranges has all these positions
abbrev pub covers : ℕ → ℕ → List (ℕ × ℕ) → Bool
covers s n [] = false
covers s n (r ∷ rs) = (nat_le r.0 s && nat_le (s + n) (r.0 + r.1)) || covers s n rs

-- how many ranges start at this position or before it
abbrev pub place : ℕ → List (ℕ × ℕ) → ℕ
place s [] = 0
place s (r ∷ rs) = if nat_le r.0 s then place s rs + 1 else 0

-- how positions that end here lie to the range at this place, if there is one
abbrev pub IsNext : List (ℕ × ℕ) → ℕ → ℕ → Side → Type 0
IsNext rs i end Off = (i ≡ length rs) ⊎ ((i < length rs) × (end < (get_or rs i (0, 0)).0))
IsNext rs i end Joins = (i < length rs) × ((get_or rs i (0, 0)).0 ≡ end)
IsNext rs i end Meets = (i < length rs) × ((get_or rs i (0, 0)).0 < end)

-- how positions that start here lie to the range in front of this place, if there is one
abbrev pub IsPrevious : List (ℕ × ℕ) → ℕ → ℕ → Side → Type 0
IsPrevious rs i start Off = (i ≡ 0) ⊎ ((0 < i) × ((get_or rs (i - 1) (0, 0)).0 + (get_or rs (i - 1) (0, 0)).1 < start))
IsPrevious rs i start Joins = (0 < i) × ((get_or rs (i - 1) (0, 0)).0 + (get_or rs (i - 1) (0, 0)).1 ≡ start)
IsPrevious rs i start Meets = (0 < i) × ((get_or rs (i - 1) (0, 0)).0 ≤ start) × (start < (get_or rs (i - 1) (0, 0)).0 + (get_or rs (i - 1) (0, 0)).1)

-- Where positions go that are to be held beside.
abbrev pub IsSpot : List (ℕ × ℕ) → ℕ → ℕ → Spot → Type 0
IsSpot rs s n Overlap = meets s n rs ≡ true
IsSpot rs s n (Apart i) = (meets s n rs ≡ false) × (i ≤ length rs) × (adding s n rs ≡ insert rs i (s, n))
IsSpot rs s n (Before i) = (meets s n rs ≡ false) × (i < length rs) × (adding s n rs ≡ slice_set rs i (s, n + (get_or rs i (0, 0)).1)) × ((get_or rs i (0, 0)).0 ≡ s + n)
IsSpot rs s n (After i) = (meets s n rs ≡ false) × (i < length rs) × (adding s n rs ≡ slice_set rs i ((get_or rs i (0, 0)).0, (get_or rs i (0, 0)).1 + n)) × ((get_or rs i (0, 0)).0 + (get_or rs i (0, 0)).1 ≡ s)
IsSpot rs s n (Between i) = (meets s n rs ≡ false) × (i + 1 < length rs)
    × (adding s n rs ≡ remove (slice_set rs i ((get_or rs i (0, 0)).0, (get_or rs i (0, 0)).1 + (n + (get_or rs (i + 1) (0, 0)).1))) (i + 1))
    × ((get_or rs i (0, 0)).0 + (get_or rs i (0, 0)).1 ≡ s) × ((get_or rs (i + 1) (0, 0)).0 ≡ s + n)
