-- Places: the writes of a list that are changes of a map.
use Rattle.std.proofs.Common.{◌≡◌, ◌≢◌, ◌∙◌, ℕ, zero, suc, ◌<◌, ◌≤◌, List, [], ◌∷◌, refl, ap, arith, Some, None, Option, IsSome, length, get_or, slice_set}
use Rattle.std.specs.List.{remove, insert}
use Rattle.std.proofs.lemmas.Grind.{common_steps}
use Rattle.lnbd_keyed.specs.Keyed.{value_at, place, rank, with_pair, with_value, without, IsAbove, IsRising}
use Rattle.lnbd_keyed.proofs.OrderLaws.{IsAbove_at}

module _ {V : Type 0} where
  -- a write at the place of a key that is held
  pub with_value_set : (n : ℕ) (v : V) (xs : List (ℕ × V)) → IsSome (value_at n xs) → slice_set xs (place n xs) (n, v) ≡ with_value n v xs
  with_value_set n v [] h = cc
  with_value_set n v (x ∷ xs) h = grind (arith, common_steps, with_value_set n v xs)

  pub without_remove : (n : ℕ) (xs : List (ℕ × V)) → IsSome (value_at n xs) → remove xs (place n xs) ≡ without n xs
  without_remove n [] h = cc
  without_remove n (x ∷ xs) h = grind (arith, common_steps, without_remove n xs)

  pub place_value : (n : ℕ) (v : V) (xs : List (ℕ × V)) → value_at n xs ≡ Some v → (d : ℕ × V) → get_or xs (place n xs) d ≡ (n, v)
  place_value n v [] h d = cc
  place_value n v (x ∷ xs) h d = grind (arith, common_steps, place_value n v xs)

  -- what stands at the place of a key
  pub value_at_row : (n at : ℕ) (p : ℕ × V) (xs : List (ℕ × V)) → IsSome (value_at n xs) → at ≡ place n xs → p ≡ get_or xs at p → Some p.1 ≡ value_at n xs
  value_at_row n at p [] h e k = cc
  value_at_row n at p (x ∷ xs) h e k = grind (arith, common_steps, value_at_row n (place n xs) p xs)

  -- a write of the value there
  pub with_value_row : (n at : ℕ) (v : V) (p : ℕ × V) (xs : List (ℕ × V)) → IsSome (value_at n xs) → at ≡ place n xs → p ≡ get_or xs at p → slice_set xs at (p.0, v) ≡ with_value n v xs
  with_value_row n at v p [] h e k = cc
  with_value_row n at v p (x ∷ xs) h e k = grind (arith, common_steps, with_value_row n (place n xs) v p xs)

  pub place_within : (n : ℕ) (xs : List (ℕ × V)) → IsSome (value_at n xs) → place n xs < length xs
  place_within n [] h = cc
  place_within n (x ∷ xs) h = grind (arith, common_steps, place_within n xs)

  -- the rank of a key
  pub rank_le : (n : ℕ) (xs : List (ℕ × V)) → rank n xs ≤ length xs
  rank_le n [] = omega arith
  rank_le n (x ∷ xs) = let e = rank_le n xs in grind (arith, common_steps)

  -- the pairs of a list that rises above m have keys above m
  above_at : (m i : ℕ) (d : ℕ × V) (xs : List (ℕ × V)) → IsAbove m xs → i < length xs → m < (get_or xs i d).0
  above_at m i d [] h l = absurd (omega arith)
  above_at m zero d (x ∷ xs) h l = h.0
  above_at m (suc i) d (x ∷ xs) h l = above_at m i d xs h.1 (omega arith)

  -- a key there that is below: the rank is past it
  pub rank_above : (n i : ℕ) (d : ℕ × V) (xs : List (ℕ × V)) → IsRising xs → i < length xs → (get_or xs i d).0 < n → i < rank n xs
  rank_above n i d [] r l h = absurd (omega arith)
  rank_above n zero d (x ∷ xs) r l h = grind (arith, common_steps)
  rank_above n (suc i) d (x ∷ xs) r l h =
      let a : x.0 < (get_or xs i d).0 = above_at x.0 i d xs r.0 (omega arith) in
      let ih : i < rank n xs = rank_above n i d xs r.1 (omega arith) h in
      grind (arith, common_steps)

  -- a key there that isn't below: the rank is not past it
  pub rank_below : (n i : ℕ) (d : ℕ × V) (xs : List (ℕ × V)) → i < length xs → n ≤ (get_or xs i d).0 → rank n xs ≤ i
  rank_below n i d [] l h = absurd (omega arith)
  rank_below n zero d (x ∷ xs) l h = grind (arith, common_steps)
  rank_below n (suc i) d (x ∷ xs) l h = let ih : rank n xs ≤ i = rank_below n i d xs (omega arith) h in grind (arith, common_steps)

  -- a key that is held stands at its rank
  pub rank_place : (n : ℕ) (xs : List (ℕ × V)) → IsRising xs → IsSome (value_at n xs) → rank n xs ≡ place n xs
  rank_place n [] r h = cc
  rank_place n (x ∷ xs) r h = go (value_at n xs) refl (λ s. rank_place n xs r.1 s)
    where
      go : (o : Option V) → value_at n xs ≡ o → (IsSome (value_at n xs) → rank n xs ≡ place n xs) → rank n (x ∷ xs) ≡ place n (x ∷ xs)
      go None e ih = grind (arith, common_steps)
      go (Some v) e ih = let a = IsAbove_at x.0 n v xs r.0 e in let same = ih (grind (arith, common_steps)) in grind (arith, common_steps)

  -- a key at its rank is held
  pub rank_held : (n : ℕ) (d : ℕ × V) (xs : List (ℕ × V)) → rank n xs < length xs → (get_or xs (rank n xs) d).0 ≡ n → IsSome (value_at n xs)
  rank_held n d [] l h = absurd (omega arith)
  rank_held n d (x ∷ xs) l h = grind (arith, common_steps, rank_held n d xs)

  -- no key at its rank, or another one: it isn't held
  pub rank_end : (n : ℕ) (xs : List (ℕ × V)) → IsRising xs → rank n xs ≡ length xs → value_at n xs ≡ None
  rank_end n xs r h = go (value_at n xs) refl
    where
      go : (o : Option V) → value_at n xs ≡ o → value_at n xs ≡ None
      go None e = e
      go (Some v) e =
          let s : IsSome (value_at n xs) = grind (arith, common_steps) in
          absurd (omega (arith, rank_place n xs r s, place_within n xs s))

  pub rank_other : (n : ℕ) (d : ℕ × V) (xs : List (ℕ × V)) → IsRising xs → (get_or xs (rank n xs) d).0 ≢ n → value_at n xs ≡ None
  rank_other n d xs r other = go (value_at n xs) refl
    where
      go : (o : Option V) → value_at n xs ≡ o → value_at n xs ≡ None
      go None e = e
      go (Some v) e =
          let s : IsSome (value_at n xs) = grind (arith, common_steps) in
          let there : get_or xs (rank n xs) d ≡ (n, v) = ap (λ i. get_or xs i d) (rank_place n xs r s) ∙ place_value n v xs e d in
          absurd (other (ap (λ (q : ℕ × V). q.0) there))

  -- a pair that is put in at its rank
  pub with_pair_insert : (n : ℕ) (v : V) (xs : List (ℕ × V)) → IsRising xs → value_at n xs ≡ None → insert xs (rank n xs) (n, v) ≡ with_pair n v xs
  with_pair_insert n v [] r h = refl
  with_pair_insert n v (x ∷ xs) r h = grind (arith, common_steps, with_pair_insert n v xs r.1)
