-- Where the rows of a table stand. A place is a cookie with its key in the slab.
use Rattle.std.specs.Prelude.{◌≡◌, ℕ, List, [], ◌∷◌, Bool, true, false, not, ◌&&◌, filter, Option, nat_eq, nat_lt}
use Rattle.std.specs.List.{find}
use Rattle.std.specs.Option.{option_map, option_map_or}
use Rattle.slab.specs.Slab.{Slab, get}
use Rattle.lnbd_keyed.specs.Keyed.{IsRising}
use Rattle.lnbd_inflight.specs.declared.places.Spot.{Spot}

-- the slab has this cookie at this key
abbrev pub stands : Slab Spot → ℕ × ℕ → Bool
stands spots place = option_map_or (λ spot. nat_eq spot.cookie place.0) (get spots place.1) false

-- the same, not done
abbrev pub waits : Slab Spot → ℕ × ℕ → Bool
waits spots place = option_map_or (λ spot. nat_eq spot.cookie place.0 && not spot.done) (get spots place.1) false

-- the places of the order that still stand
abbrev pub places_of : Slab Spot → List (ℕ × ℕ) → List (ℕ × ℕ)
places_of spots order = filter (stands spots) order

-- the first cookie of the order that is held
abbrev pub first_standing : Slab Spot → List (ℕ × ℕ) → Option ℕ
first_standing spots order = option_map (λ place. place.0) (find (stands spots) order)

-- the first cookie of the order that is held and not done
abbrev pub first_waiting : Slab Spot → List (ℕ × ℕ) → Option ℕ
first_waiting spots order = option_map (λ place. place.0) (find (waits spots) order)

-- the places of greater cookies
abbrev pub places_above : ℕ → List (ℕ × ℕ) → List (ℕ × ℕ)
places_above above order = filter (λ place. nat_lt above place.0) order

-- the last place, if there is one, stands
abbrev pub EndsStanding : Slab Spot → List (ℕ × ℕ) → Type 0
EndsStanding spots [] = Unit {0}
EndsStanding spots (place ∷ []) = stands spots place ≡ true
EndsStanding spots (place ∷ next ∷ rest) = EndsStanding spots (next ∷ rest)

-- cookies rise in the order, and the last of them is held
pub record IsOrdered (spots : Slab Spot) (order : List (ℕ × ℕ)) : Type 0 where
  pub rising : IsRising order
  pub ends : EndsStanding spots order
