-- The rows at the slab's keys.
use Rattle.std.specs.Prelude.{◌≡◌, ◌≢◌, ℕ, List, [], ◌∷◌, Option, Some, None, IsSome, length, slice_index_or}
use Rattle.std.specs.Option.{option_map}
use Rattle.slab.specs.Slab.{Slab, get, slab_len}
use Rattle.lnbd_keyed.specs.Keyed.{value_at}
use Rattle.lnbd_inflight.specs.declared.places.Spot.{Spot}
use Rattle.lnbd_inflight.specs.declared.rows.Held.{Held}
use Rattle.lnbd_inflight.specs.Done.{is_done}
use Rattle.lnbd_inflight.specs.Places.{places_of, IsOrdered}

module _ {R : Type 0} where
  -- what stands at a key
  abbrev pub slot : List (Option (Held R)) → ℕ → Option (Held R)
  slot rows key = slice_index_or rows key None

  -- one row more, where there is one
  abbrev pub with_first : ℕ → Option (Held R) → List (ℕ × R) → List (ℕ × R)
  with_first cookie None rest = rest
  with_first cookie (Some held) rest = (cookie, held.row) ∷ rest

  -- the rows at these places
  abbrev pub rows_in : List (Option (Held R)) → List (ℕ × ℕ) → List (ℕ × R)
  rows_in rows [] = []
  rows_in rows (place ∷ places) = with_first place.0 (slot rows place.1) (rows_in rows places)

  -- nothing stands at any key
  abbrev pub IsEmptied : List (Option (Held R)) → Type 0
  IsEmptied rows = (key : ℕ) → slot rows key ≡ None

  -- each key has what it had
  abbrev pub SameSlots : List (Option (Held R)) → List (Option (Held R)) → Type 0
  SameSlots old new = (key : ℕ) → slot new key ≡ slot old key

  -- each key has the row that it had
  abbrev pub SameRows : List (Option (Held R)) → List (Option (Held R)) → Type 0
  SameRows old new = (key : ℕ) → option_map (λ held. held.row) (slot new key) ≡ option_map (λ held. held.row) (slot old key)

  -- this key has this, and each other key what it had
  pub record ChangesSlot (old new : List (Option (Held R))) (key : ℕ) (held : Option (Held R)) : Type 0 where
    pub changed : slot new key ≡ held
    pub others : (other : ℕ) → other ≢ key → slot new other ≡ slot old other

  -- Slab, index, rows, order and marks agree. The index is seen as what it finds.
  pub record IsPlaced (spots : Slab Spot) (index : ℕ → Option ℕ) (rows : List (Option (Held R))) (order : List (ℕ × ℕ)) (done : List ℕ) : Type 0 where
    pub ordered : IsOrdered spots order
    -- the index has the key of each cookie that is held, and nothing else
    pub indexed : (cookie : ℕ) → index cookie ≡ value_at cookie (places_of spots order)
    -- the slab has there the cookie and whether it is done
    pub marked : (cookie key : ℕ) → index cookie ≡ Some key → get spots key ≡ Some (record { cookie = cookie; done = is_done cookie done })
    -- and nothing else
    pub only : (key : ℕ) (spot : Spot) → get spots key ≡ Some spot → index spot.cookie ≡ Some key
    -- a row stands at each key that the slab gave out, and at no other
    pub filled : (cookie key : ℕ) → index cookie ≡ Some key → IsSome (slot rows key)
    pub empty : (key : ℕ) → get spots key ≡ None → slot rows key ≡ None
    pub counted : slab_len spots ≡ length (rows_in rows (places_of spots order))
