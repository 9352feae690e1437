-- The laws of maps: what a look-up gives after each change, that keys still rise, and which writes of a list are changes.
use Rattle.std.specs.Prelude.{◌≡◌, ◌≢◌, ℕ, ◌≤◌, List, [], ◌∷◌, ◌++◌, Some, None, IsSome, slice_set, insert, remove, ◌==◌}
use Rattle.std.specs.List.{list_any}
use Rattle.lnbd_keyed.specs.Keyed.{value_at, holds_key, place, rank, with_pair, with_value, without, keys, first_key, IsBelow, IsRising}

module _ (V : Type 0) where
  -- At the same key

  -- A value that was put in is found.
  abbrev pub PutIsFound : Type 0
  PutIsFound = (key : ℕ) (value : V) (rows : List (ℕ × V)) → value_at key (with_pair key value rows) ≡ Some value

  -- A value that was written over another is found.
  abbrev pub ChangeIsFound : Type 0
  ChangeIsFound = (key : ℕ) (value : V) (rows : List (ℕ × V)) → IsSome (value_at key rows) → value_at key (with_value key value rows) ≡ Some value

  -- A key that was taken away is held no more.
  abbrev pub RemovedIsGone : Type 0
  RemovedIsGone = (key : ℕ) (rows : List (ℕ × V)) → IsRising rows → value_at key (without key rows) ≡ None

  -- A pair at the end, above the others, is found.
  abbrev pub LastIsFound : Type 0
  LastIsFound = (key : ℕ) (value : V) (rows : List (ℕ × V)) → IsBelow rows key → value_at key (rows ++ (key, value) ∷ []) ≡ Some value

  -- At another key

  abbrev pub PutLeavesOthers : Type 0
  PutLeavesOthers = (other key : ℕ) (value : V) (rows : List (ℕ × V)) → other ≢ key → value_at other (with_pair key value rows) ≡ value_at other rows

  abbrev pub ChangeLeavesOthers : Type 0
  ChangeLeavesOthers = (other key : ℕ) (value : V) (rows : List (ℕ × V)) → other ≢ key → value_at other (with_value key value rows) ≡ value_at other rows

  abbrev pub RemovalLeavesOthers : Type 0
  RemovalLeavesOthers = (other key : ℕ) (rows : List (ℕ × V)) → other ≢ key → value_at other (without key rows) ≡ value_at other rows

  abbrev pub LastLeavesOthers : Type 0
  LastLeavesOthers = (other key : ℕ) (value : V) (rows : List (ℕ × V)) → other ≢ key → value_at other (rows ++ (key, value) ∷ []) ≡ value_at other rows

  -- Order

  -- The keys still rise after each change.
  abbrev pub PutRises : Type 0
  PutRises = (key : ℕ) (value : V) (rows : List (ℕ × V)) → IsRising rows → IsRising (with_pair key value rows)

  abbrev pub ChangeRises : Type 0
  ChangeRises = (key : ℕ) (value : V) (rows : List (ℕ × V)) → IsRising rows → IsRising (with_value key value rows)

  abbrev pub RemovalRises : Type 0
  RemovalRises = (key : ℕ) (rows : List (ℕ × V)) → IsRising rows → IsRising (without key rows)

  abbrev pub LastRises : Type 0
  LastRises = (key : ℕ) (value : V) (rows : List (ℕ × V)) → IsRising rows → IsBelow rows key → IsRising (rows ++ (key, value) ∷ [])

  -- The first key is held, and no key that is held is below it.
  abbrev pub FirstIsHeld : Type 0
  FirstIsHeld = (first : ℕ) (rows : List (ℕ × V)) → first_key rows ≡ Some first → IsSome (value_at first rows)

  abbrev pub FirstIsLeast : Type 0
  FirstIsLeast = (first key : ℕ) (rows : List (ℕ × V)) → IsRising rows → first_key rows ≡ Some first → IsSome (value_at key rows) → first ≤ key

  -- The keys are those that are held.
  abbrev pub KeysAreThoseHeld : Type 0
  KeysAreThoseHeld = (key : ℕ) (rows : List (ℕ × V)) → list_any (λ one. key == one) (keys rows) ≡ holds_key key rows

  -- Maps that hold the same are the same list.
  abbrev pub SameLookupsSameMap : Type 0
  SameLookupsSameMap = (rows more : List (ℕ × V)) → IsRising rows → IsRising more → ((key : ℕ) → value_at key rows ≡ value_at key more) → rows ≡ more

  -- Places

  -- A pair that is put in at its rank, a write at a key's place, and a removal there are the changes.
  abbrev pub PutAtItsRank : Type 0
  PutAtItsRank = (key : ℕ) (value : V) (rows : List (ℕ × V)) → IsRising rows → value_at key rows ≡ None → insert rows (rank key rows) (key, value) ≡ with_pair key value rows

  abbrev pub ChangeAtItsPlace : Type 0
  ChangeAtItsPlace = (key : ℕ) (value : V) (rows : List (ℕ × V)) → IsSome (value_at key rows) → slice_set rows (place key rows) (key, value) ≡ with_value key value rows

  abbrev pub RemovalAtItsPlace : Type 0
  RemovalAtItsPlace = (key : ℕ) (rows : List (ℕ × V)) → IsSome (value_at key rows) → remove rows (place key rows) ≡ without key rows

  -- A pair above all others is put in at the end.
  abbrev pub PutAtTheEnd : Type 0
  PutAtTheEnd = (key : ℕ) (value : V) (rows : List (ℕ × V)) → IsBelow rows key → with_pair key value rows ≡ rows ++ (key, value) ∷ []
