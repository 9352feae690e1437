-- What `index` and `spots` show of a table.
use Rattle.std.specs.Prelude.{◌≡◌, ℕ, Some, nat_eq, IsSome, is_some}
use Rattle.slab.specs.Slab.{Slab, get as at_key}
use Rattle.indexmap.specs.IndexMap.{IndexMap, get}
use Rattle.lnbd_keyed.specs.Keyed.{value_at, holds_key}
use Rattle.lnbd_inflight.specs.declared.places.Spot.{Spot}
use Rattle.lnbd_inflight.specs.Done.{is_done}
use Rattle.lnbd_inflight.specs.Table.{Table}

module _ {S : Type 0} where
  -- different cookies have different values
  abbrev pub HasDistinctValues : IndexMap ℕ ℕ S → Type 0
  HasDistinctValues index = (one other key : ℕ) → get nat_eq index one ≡ Some key → get nat_eq index other ≡ Some key → one ≡ other

  -- the slab has nothing but what the index tells
  abbrev pub StandsNowhereElse : IndexMap ℕ ℕ S → Slab Spot → Type 0
  StandsNowhereElse index spots = (key : ℕ) (spot : Spot) → at_key spots key ≡ Some spot → get nat_eq index spot.cookie ≡ Some key

module _ {R S : Type 0} where
  -- its keys are exactly the cookies held
  abbrev pub HasCookies : IndexMap ℕ ℕ S → Table R → Type 0
  HasCookies index table = (cookie : ℕ) → is_some (get nat_eq index cookie) ≡ holds_key cookie table.rows

  -- at each value of the index stand that value's cookie and whether it is done
  abbrev pub StandsAtValues : IndexMap ℕ ℕ S → Slab Spot → Table R → Type 0
  StandsAtValues index spots table = (cookie key : ℕ) → get nat_eq index cookie ≡ Some key → at_key spots key ≡ Some (record { cookie = cookie; done = is_done cookie table.done })

module _ {R : Type 0} where
  -- each spot has a cookie that is held and whether it is done
  abbrev pub HasHeldOnly : Slab Spot → Table R → Type 0
  HasHeldOnly spots table = (key : ℕ) (spot : Spot) → at_key spots key ≡ Some spot → IsSome (value_at spot.cookie table.rows) × (spot.done ≡ is_done spot.cookie table.done)

  -- each cookie that is held has a spot
  abbrev pub HasEachHeld : Slab Spot → Table R → Type 0
  HasEachHeld spots table = (cookie : ℕ) → IsSome (value_at cookie table.rows) → (key : ℕ) × (at_key spots key ≡ Some (record { cookie = cookie; done = is_done cookie table.done }))
