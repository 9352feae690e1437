-- What is done to a key at the head, at the end, or in the right part of a map, is done there.
use Rattle.std.proofs.Common.{◌≡◌, ℕ, ◌<◌, List, [], ◌∷◌, ◌++◌, refl, arith, Some}
use Rattle.std.proofs.lemmas.Grind.{common_steps}
use Rattle.lnbd_keyed.specs.Keyed.{value_at, with_pair, with_value, without, IsAbove, IsBelow, IsRising}
use Rattle.lnbd_keyed.proofs.OrderLaws.{IsAbove_right, IsAbove_at}
pub use Rattle.lnbd_keyed.proofs.OrderLaws.{IsBelow_less, IsBelow_append, IsBelow_without, IsBelow_with, IsAbove_right, IsAbove_at}
pub use Rattle.lnbd_keyed.proofs.LookupLaws.{value_at_head, value_at_last, value_at_right, with_value_twice, without_with, length_with, length_without}

module _ {V : Type 0} where
  -- at the head
  pub without_head : (n : ℕ) (v : V) (xs : List (ℕ × V)) → without n ((n, v) ∷ xs) ≡ xs
  without_head n v xs = grind (arith, common_steps)

  pub with_value_head : (n : ℕ) (u v : V) (xs : List (ℕ × V)) → with_value n v ((n, u) ∷ xs) ≡ (n, v) ∷ xs
  with_value_head n u v xs = grind (arith, common_steps)

  pub with_pair_head : (n : ℕ) (v : V) (xs : List (ℕ × V)) → IsAbove n xs → with_pair n v xs ≡ (n, v) ∷ xs
  with_pair_head n v [] h = refl
  with_pair_head n v (x ∷ xs) h = let l : n < x.0 = h.0 in grind (arith, common_steps)

  -- at the end, above the others
  pub with_value_last : (n : ℕ) (u v : V) (xs : List (ℕ × V)) → IsBelow xs n → with_value n v (xs ++ (n, u) ∷ []) ≡ xs ++ (n, v) ∷ []
  with_value_last n u v [] h = with_value_head n u v []
  with_value_last n u v (x ∷ xs) h = let e = with_value_last n u v xs h.1 in let l : x.0 < n = h.0 in grind (arith, common_steps)

  pub without_last : (n : ℕ) (v : V) (xs : List (ℕ × V)) → IsBelow xs n → without n (xs ++ (n, v) ∷ []) ≡ xs
  without_last n v [] h = without_head n v []
  without_last n v (x ∷ xs) h = let e = without_last n v xs h.1 in let l : x.0 < n = h.0 in grind (arith, common_steps)

  pub with_pair_last : (n : ℕ) (v : V) (xs : List (ℕ × V)) → IsBelow xs n → with_pair n v xs ≡ xs ++ (n, v) ∷ []
  with_pair_last n v [] h = refl
  with_pair_last n v (x ∷ xs) h = let e = with_pair_last n v xs h.1 in let l : x.0 < n = h.0 in grind (arith, common_steps)

  -- in the right part
  pub without_right : (n : ℕ) (v : V) (xs ys : List (ℕ × V)) → IsRising (xs ++ ys) → value_at n ys ≡ Some v → without n (xs ++ ys) ≡ xs ++ without n ys
  without_right n v [] ys h k = refl
  without_right n v (x ∷ xs) ys h k =
      let l = IsAbove_at x.0 n v ys (IsAbove_right x.0 xs ys h.0) k in
      let e = without_right n v xs ys h.1 k in
      grind (arith, common_steps)

  pub with_value_right : (n : ℕ) (u v : V) (xs ys : List (ℕ × V)) → IsRising (xs ++ ys) → value_at n ys ≡ Some u → with_value n v (xs ++ ys) ≡ xs ++ with_value n v ys
  with_value_right n u v [] ys h k = refl
  with_value_right n u v (x ∷ xs) ys h k =
      let l = IsAbove_at x.0 n u ys (IsAbove_right x.0 xs ys h.0) k in
      let e = with_value_right n u v xs ys h.1 k in
      grind (arith, common_steps)

  -- above all of the left part
  pub with_pair_right : (n : ℕ) (v : V) (xs ys : List (ℕ × V)) → IsBelow xs n → with_pair n v (xs ++ ys) ≡ xs ++ with_pair n v ys
  with_pair_right n v [] ys h = refl
  with_pair_right n v (x ∷ xs) ys h = let e = with_pair_right n v xs ys h.1 in let l : x.0 < n = h.0 in grind (arith, common_steps)
