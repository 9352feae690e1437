-- A finite map as the list of its pairs, by rising keys. Where a key stands twice, the first counts.
use Rattle.std.specs.Prelude.{ℕ, ◌+◌, ◌<◌, List, [], ◌∷◌, Bool, cond, ◌==◌, nat_lt, Option, Some, None, is_some}

module _ {V : Type 0} where
  -- the value at a key, if it is held
  abbrev pub value_at : ℕ → List (ℕ × V) → Option V
  value_at n [] = None
  value_at n (x ∷ xs) = cond (n == x.0) (Some x.1) (value_at n xs)

  -- whether a key is held
  abbrev pub holds_key : ℕ → List (ℕ × V) → Bool
  holds_key n xs = is_some (value_at n xs)

  -- the place of a key that is held
  abbrev pub place : ℕ → List (ℕ × V) → ℕ
  place n [] = 0
  place n (x ∷ xs) = cond (n == x.0) 0 (place n xs + 1)

  -- how many of the first keys are below this one: the place where it stands, or would stand
  abbrev pub rank : ℕ → List (ℕ × V) → ℕ
  rank n [] = 0
  rank n (x ∷ xs) = cond (nat_lt x.0 n) (rank n xs + 1) 0

  -- the map with this value at a key, which is put in at its place if it isn't held
  abbrev pub with_pair : ℕ → V → List (ℕ × V) → List (ℕ × V)
  with_pair n v [] = (n, v) ∷ []
  with_pair n v (x ∷ xs) = cond (nat_lt n x.0) ((n, v) ∷ x ∷ xs) (cond (n == x.0) ((n, v) ∷ xs) (x ∷ with_pair n v xs))

  -- the map with this value at a key that is held
  abbrev pub with_value : ℕ → V → List (ℕ × V) → List (ℕ × V)
  with_value n v [] = []
  with_value n v (x ∷ xs) = cond (n == x.0) ((x.0, v) ∷ xs) (x ∷ with_value n v xs)

  -- the map without a key
  abbrev pub without : ℕ → List (ℕ × V) → List (ℕ × V)
  without n [] = []
  without n (x ∷ xs) = cond (n == x.0) xs (x ∷ without n xs)

  -- the keys, in their order
  abbrev pub keys : List (ℕ × V) → List ℕ
  keys [] = []
  keys (x ∷ xs) = x.0 ∷ keys xs

  -- the first key, if there is one
  abbrev pub first_key : List (ℕ × V) → Option ℕ
  first_key [] = None
  first_key (x ∷ xs) = Some x.0

  -- each key is below this
  abbrev pub IsBelow : List (ℕ × V) → ℕ → Type 0
  IsBelow [] n = Unit {0}
  IsBelow (x ∷ xs) n = (x.0 < n) × IsBelow xs n

  -- each key is above this
  abbrev pub IsAbove : ℕ → List (ℕ × V) → Type 0
  IsAbove n [] = Unit {0}
  IsAbove n (x ∷ xs) = (n < x.0) × IsAbove n xs

  -- the keys strictly rise
  abbrev pub IsRising : List (ℕ × V) → Type 0
  IsRising [] = Unit {0}
  IsRising (x ∷ xs) = IsAbove x.0 xs × IsRising xs
