-- Order: which lists rise, and which keys lie above or below.
use Rattle.std.proofs.Common.{◌≡◌, ℕ, ◌<◌, ◌≤◌, List, [], ◌∷◌, ◌++◌, Bool, true, false, cond, refl, arith, Some, None, Option, IsSome, ◌==◌, nat_lt}
use Rattle.std.proofs.lemmas.Grind.{common_steps}
use Rattle.lnbd_keyed.specs.Keyed.{value_at, with_pair, with_value, without, first_key, IsAbove, IsBelow, IsRising}

module _ {V : Type 0} where
  -- above

  pub IsAbove_less : (m n : ℕ) (xs : List (ℕ × V)) → m < n → IsAbove n xs → IsAbove m xs
  IsAbove_less m n [] h k = tt
  IsAbove_less m n (x ∷ xs) h k = (omega arith, IsAbove_less m n xs h k.1)

  pub IsAbove_without : (m n : ℕ) (xs : List (ℕ × V)) → IsAbove m xs → IsAbove m (without n xs)
  IsAbove_without m n [] k = tt
  IsAbove_without m n (x ∷ xs) k = elim (n == x.0) as (λ b. IsAbove m (cond b xs (x ∷ without n xs))) [ true ↦ k.1 | false ↦ (k.0, IsAbove_without m n xs k.1) ]

  pub IsAbove_with : (m n : ℕ) (v : V) (xs : List (ℕ × V)) → IsAbove m xs → IsAbove m (with_value n v xs)
  IsAbove_with m n v [] k = tt
  IsAbove_with m n v (x ∷ xs) k = elim (n == x.0) as (λ b. IsAbove m (cond b ((x.0, v) ∷ xs) (x ∷ with_value n v xs))) [ true ↦ k | false ↦ (k.0, IsAbove_with m n v xs k.1) ]

  pub IsAbove_pair : (m n : ℕ) (v : V) (xs : List (ℕ × V)) → m < n → IsAbove m xs → IsAbove m (with_pair n v xs)
  IsAbove_pair m n v [] h k = (h, tt)
  IsAbove_pair m n v (x ∷ xs) h k =
      elim (nat_lt n x.0) as (λ b. IsAbove m (cond b ((n, v) ∷ x ∷ xs) (cond (n == x.0) ((n, v) ∷ xs) (x ∷ with_pair n v xs)))) [
        | true ↦ (h, k)
        | false ↦ elim (n == x.0) as (λ b. IsAbove m (cond b ((n, v) ∷ xs) (x ∷ with_pair n v xs))) [ true ↦ (h, k.1) | false ↦ (k.0, IsAbove_pair m n v xs h k.1) ]
      ]

  pub IsAbove_append : (m n : ℕ) (v : V) (xs : List (ℕ × V)) → IsAbove m xs → m < n → IsAbove m (xs ++ (n, v) ∷ [])
  IsAbove_append m n v [] k h = (h, tt)
  IsAbove_append m n v (x ∷ xs) k h = (k.0, IsAbove_append m n v xs k.1 h)

  pub IsAbove_left : (m : ℕ) (xs ys : List (ℕ × V)) → IsAbove m (xs ++ ys) → IsAbove m xs
  IsAbove_left m [] ys h = tt
  IsAbove_left m (x ∷ xs) ys h = (h.0, IsAbove_left m xs ys h.1)

  pub IsAbove_right : (m : ℕ) (xs ys : List (ℕ × V)) → IsAbove m (xs ++ ys) → IsAbove m ys
  IsAbove_right m [] ys h = h
  IsAbove_right m (x ∷ xs) ys h = IsAbove_right m xs ys h.1

  -- a key that is held lies above
  pub IsAbove_at : (m n : ℕ) (v : V) (xs : List (ℕ × V)) → IsAbove m xs → value_at n xs ≡ Some v → m < n
  IsAbove_at m n v [] h k = cc
  IsAbove_at m n v (x ∷ xs) h k = let above : m < x.0 = h.0 in let rest : value_at n xs ≡ Some v → m < n = IsAbove_at m n v xs h.1 in grind (arith, common_steps, rest)

  -- what is above each key that is held is above all
  pub IsAbove_of : (m : ℕ) (xs : List (ℕ × V)) → ((n : ℕ) → IsSome (value_at n xs) → m < n) → IsAbove m xs
  IsAbove_of m [] h = tt
  IsAbove_of m (x ∷ xs) h =
      let here : IsSome (value_at x.0 (x ∷ xs)) = grind (arith, common_steps) in
      (h x.0 here, IsAbove_of m xs (λ n s. h n (grind (arith, common_steps))))

  -- below

  pub IsBelow_less : (m n : ℕ) (xs : List (ℕ × V)) → m ≤ n → IsBelow xs m → IsBelow xs n
  IsBelow_less m n [] h k = tt
  IsBelow_less m n (x ∷ xs) h k = (omega arith, IsBelow_less m n xs h k.1)

  pub IsBelow_without : (m n : ℕ) (xs : List (ℕ × V)) → IsBelow xs m → IsBelow (without n xs) m
  IsBelow_without m n [] k = tt
  IsBelow_without m n (x ∷ xs) k = elim (n == x.0) as (λ b. IsBelow (cond b xs (x ∷ without n xs)) m) [ true ↦ k.1 | false ↦ (k.0, IsBelow_without m n xs k.1) ]

  pub IsBelow_with : (m n : ℕ) (v : V) (xs : List (ℕ × V)) → IsBelow xs m → IsBelow (with_value n v xs) m
  IsBelow_with m n v [] k = tt
  IsBelow_with m n v (x ∷ xs) k = elim (n == x.0) as (λ b. IsBelow (cond b ((x.0, v) ∷ xs) (x ∷ with_value n v xs)) m) [ true ↦ k | false ↦ (k.0, IsBelow_with m n v xs k.1) ]

  pub IsBelow_pair : (m n : ℕ) (v : V) (xs : List (ℕ × V)) → n < m → IsBelow xs m → IsBelow (with_pair n v xs) m
  IsBelow_pair m n v [] h k = (h, tt)
  IsBelow_pair m n v (x ∷ xs) h k =
      elim (nat_lt n x.0) as (λ b. IsBelow (cond b ((n, v) ∷ x ∷ xs) (cond (n == x.0) ((n, v) ∷ xs) (x ∷ with_pair n v xs))) m) [
        | true ↦ (h, k)
        | false ↦ elim (n == x.0) as (λ b. IsBelow (cond b ((n, v) ∷ xs) (x ∷ with_pair n v xs)) m) [ true ↦ (h, k.1) | false ↦ (k.0, IsBelow_pair m n v xs h k.1) ]
      ]

  pub IsBelow_append : (n k : ℕ) (v : V) (xs : List (ℕ × V)) → IsBelow xs n → k < n → IsBelow (xs ++ (k, v) ∷ []) n
  IsBelow_append n k v [] h l = (l, tt)
  IsBelow_append n k v (x ∷ xs) h l = (h.0, IsBelow_append n k v xs h.1 l)

  pub IsBelow_left : (n : ℕ) (xs ys : List (ℕ × V)) → IsBelow (xs ++ ys) n → IsBelow xs n
  IsBelow_left n [] ys h = tt
  IsBelow_left n (x ∷ xs) ys h = (h.0, IsBelow_left n xs ys h.1)

  pub IsBelow_right : (n : ℕ) (xs ys : List (ℕ × V)) → IsBelow (xs ++ ys) n → IsBelow ys n
  IsBelow_right n [] ys h = h
  IsBelow_right n (x ∷ xs) ys h = IsBelow_right n xs ys h.1

  -- a key that is held lies below
  pub IsBelow_at : (m n : ℕ) (v : V) (xs : List (ℕ × V)) → IsBelow xs m → value_at n xs ≡ Some v → n < m
  IsBelow_at m n v [] h k = cc
  IsBelow_at m n v (x ∷ xs) h k = let below : x.0 < m = h.0 in let rest : value_at n xs ≡ Some v → n < m = IsBelow_at m n v xs h.1 in grind (arith, common_steps, rest)

  -- what is below each key that is held is below all
  pub IsBelow_of : (m : ℕ) (xs : List (ℕ × V)) → ((n : ℕ) → IsSome (value_at n xs) → n < m) → IsBelow xs m
  IsBelow_of m [] h = tt
  IsBelow_of m (x ∷ xs) h =
      let here : IsSome (value_at x.0 (x ∷ xs)) = grind (arith, common_steps) in
      (h x.0 here, IsBelow_of m xs (λ n s. h n (grind (arith, common_steps))))

  -- rising

  pub IsRising_without : (n : ℕ) (xs : List (ℕ × V)) → IsRising xs → IsRising (without n xs)
  IsRising_without n [] k = tt
  IsRising_without n (x ∷ xs) k = elim (n == x.0) as (λ b. IsRising (cond b xs (x ∷ without n xs))) [ true ↦ k.1 | false ↦ (IsAbove_without x.0 n xs k.0, IsRising_without n xs k.1) ]

  pub IsRising_with : (n : ℕ) (v : V) (xs : List (ℕ × V)) → IsRising xs → IsRising (with_value n v xs)
  IsRising_with n v [] k = tt
  IsRising_with n v (x ∷ xs) k = elim (n == x.0) as (λ b. IsRising (cond b ((x.0, v) ∷ xs) (x ∷ with_value n v xs))) [ true ↦ k | false ↦ (IsAbove_with x.0 n v xs k.0, IsRising_with n v xs k.1) ]

  pub IsRising_pair : (n : ℕ) (v : V) (xs : List (ℕ × V)) → IsRising xs → IsRising (with_pair n v xs)
  IsRising_pair n v [] k = (tt, tt)
  IsRising_pair n v (x ∷ xs) k = go (nat_lt n x.0) (n == x.0) refl refl (IsRising_pair n v xs k.1)
    where
      go : (less same : Bool) → nat_lt n x.0 ≡ less → (n == x.0) ≡ same → IsRising (with_pair n v xs) → IsRising (cond less ((n, v) ∷ x ∷ xs) (cond same ((n, v) ∷ xs) (x ∷ with_pair n v xs)))
      go true same l e ih = let h : n < x.0 = grind (arith, common_steps) in ((h, IsAbove_less n x.0 xs h k.0), k)
      go false true l e ih = let h : n ≡ x.0 = grind (arith, common_steps) in (rw h (k.0), k.1)
      go false false l e ih = let h : x.0 < n = grind (arith, common_steps) in (IsAbove_pair x.0 n v xs h k.0, ih)

  pub IsRising_append : (n : ℕ) (v : V) (xs : List (ℕ × V)) → IsRising xs → IsBelow xs n → IsRising (xs ++ (n, v) ∷ [])
  IsRising_append n v [] k h = (tt, tt)
  IsRising_append n v (x ∷ xs) k h = (IsAbove_append x.0 n v xs k.0 h.0, IsRising_append n v xs k.1 h.1)

  pub IsRising_left : (xs ys : List (ℕ × V)) → IsRising (xs ++ ys) → IsRising xs
  IsRising_left [] ys h = tt
  IsRising_left (x ∷ xs) ys h = (IsAbove_left x.0 xs ys h.0, IsRising_left xs ys h.1)

  pub IsRising_right : (xs ys : List (ℕ × V)) → IsRising (xs ++ ys) → IsRising ys
  IsRising_right [] ys h = h
  IsRising_right (x ∷ xs) ys h = IsRising_right xs ys h.1

  -- no key that is held lies below the first
  pub first_key_least : (first n : ℕ) (v : V) (xs : List (ℕ × V)) → IsRising xs → first_key xs ≡ Some first → value_at n xs ≡ Some v → first ≤ n
  first_key_least first n v [] k e h = cc
  first_key_least first n v (x ∷ xs) k e h =
      let is : x.0 ≡ first = cc in
      let rest : value_at n xs ≡ Some v → x.0 < n = IsAbove_at x.0 n v xs k.0 in
      grind (arith, common_steps, rest)

  pub first_key_below : (first n : ℕ) (xs : List (ℕ × V)) → IsRising xs → first_key xs ≡ Some first → IsSome (value_at n xs) → first ≤ n
  first_key_below first n xs k e h = go (value_at n xs) refl h
    where
      go : (o : Option V) → value_at n xs ≡ o → IsSome o → first ≤ n
      go None w s = cc
      go (Some v) w s = first_key_least first n v xs k e w
