-- Look-ups, key by key: at the same key, and at another.
use Rattle.std.proofs.Common.{◌≡◌, ◌≢◌, ℕ, ◌+◌, ◌<◌, ◌≤◌, List, [], ◌∷◌, ◌++◌, Bool, true, false, cond, refl, ap, arith, Some, None, IsSome, is_some, length, filter, ◌||◌, ◌==◌}
use Rattle.std.specs.List.{list_any}
use Rattle.std.proofs.lemmas.Grind.{common_steps}
use Rattle.lnbd_keyed.specs.Keyed.{value_at, holds_key, with_pair, with_value, without, keys, first_key, IsAbove, IsBelow, IsRising}
use Rattle.lnbd_keyed.proofs.OrderLaws.{IsAbove_at}

module _ {V : Type 0} where
  -- a value that was put in
  pub value_at_pair : (n : ℕ) (v : V) (xs : List (ℕ × V)) → value_at n (with_pair n v xs) ≡ Some v
  value_at_pair n v [] = grind (arith, common_steps)
  value_at_pair n v (x ∷ xs) = let e = value_at_pair n v xs in grind (arith, common_steps)

  pub value_at_pair_other : (m n : ℕ) (v : V) (xs : List (ℕ × V)) → m ≢ n → value_at m (with_pair n v xs) ≡ value_at m xs
  value_at_pair_other m n v [] h = grind (arith, common_steps)
  value_at_pair_other m n v (x ∷ xs) h = let e = value_at_pair_other m n v xs h in grind (arith, common_steps)

  -- a value that was written
  pub value_at_with : (n : ℕ) (u v : V) (xs : List (ℕ × V)) → value_at n xs ≡ Some u → value_at n (with_value n v xs) ≡ Some v
  value_at_with n u v [] h = cc
  value_at_with n u v (x ∷ xs) h = grind (arith, common_steps, value_at_with n u v xs)

  pub value_at_with_some : (n : ℕ) (v : V) (xs : List (ℕ × V)) → IsSome (value_at n xs) → value_at n (with_value n v xs) ≡ Some v
  value_at_with_some n v [] h = cc
  value_at_with_some n v (x ∷ xs) h = grind (arith, common_steps, value_at_with_some n v xs)

  pub value_at_with_other : (m n : ℕ) (v : V) (xs : List (ℕ × V)) → m ≢ n → value_at m (with_value n v xs) ≡ value_at m xs
  value_at_with_other m n v [] h = refl
  value_at_with_other m n v (x ∷ xs) h = let e = value_at_with_other m n v xs h in grind (arith, common_steps)

  pub with_value_none : (n : ℕ) (v : V) (xs : List (ℕ × V)) → value_at n xs ≡ None → with_value n v xs ≡ xs
  with_value_none n v [] h = refl
  with_value_none n v (x ∷ xs) h = grind (arith, common_steps, with_value_none n v xs)

  -- nothing is held past the last key, nor before the first
  pub value_at_above : (m n : ℕ) (xs : List (ℕ × V)) → IsAbove n xs → m ≤ n → value_at m xs ≡ None
  value_at_above m n [] h l = refl
  value_at_above m n (x ∷ xs) h l = let e = value_at_above m n xs h.1 l in let k : n < x.0 = h.0 in grind (arith, common_steps)

  pub value_at_below : (m n : ℕ) (xs : List (ℕ × V)) → IsBelow xs n → n ≤ m → value_at m xs ≡ None
  value_at_below m n [] h l = refl
  value_at_below m n (x ∷ xs) h l = let e = value_at_below m n xs h.1 l in let k : x.0 < n = h.0 in grind (arith, common_steps)

  -- a key that was taken away
  pub value_at_without : (n : ℕ) (xs : List (ℕ × V)) → IsRising xs → value_at n (without n xs) ≡ None
  value_at_without n [] h = refl
  value_at_without n (x ∷ xs) h = let e = value_at_without n xs h.1 in let a = value_at_above x.0 x.0 xs h.0 in grind (arith, common_steps)

  pub value_at_without_other : (m n : ℕ) (xs : List (ℕ × V)) → m ≢ n → value_at m (without n xs) ≡ value_at m xs
  value_at_without_other m n [] h = refl
  value_at_without_other m n (x ∷ xs) h = let e = value_at_without_other m n xs h in grind (arith, common_steps)

  pub without_none : (n : ℕ) (xs : List (ℕ × V)) → value_at n xs ≡ None → without n xs ≡ xs
  without_none n [] h = refl
  without_none n (x ∷ xs) h = grind (arith, common_steps, without_none n xs)

  -- at the head
  pub value_at_head : (n : ℕ) (v : V) (xs : List (ℕ × V)) → value_at n ((n, v) ∷ xs) ≡ Some v
  value_at_head n v xs = grind (arith, common_steps)

  pub value_at_tail : (m : ℕ) (x : ℕ × V) (xs : List (ℕ × V)) → m ≢ x.0 → value_at m (x ∷ xs) ≡ value_at m xs
  value_at_tail m x xs h = grind (arith, common_steps)

  -- at the end, above the others
  pub value_at_last : (n : ℕ) (v : V) (xs : List (ℕ × V)) → IsBelow xs n → value_at n (xs ++ (n, v) ∷ []) ≡ Some v
  value_at_last n v [] h = value_at_head n v []
  value_at_last n v (x ∷ xs) h = let e = value_at_last n v xs h.1 in let l : x.0 < n = h.0 in grind (arith, common_steps)

  pub value_at_last_other : (m n : ℕ) (v : V) (xs : List (ℕ × V)) → m ≢ n → value_at m (xs ++ (n, v) ∷ []) ≡ value_at m xs
  value_at_last_other m n v [] h = grind (arith, common_steps)
  value_at_last_other m n v (x ∷ xs) h = let e = value_at_last_other m n v xs h in grind (arith, common_steps)

  -- a key of the right part
  pub value_at_right : (n : ℕ) (v : V) (xs ys : List (ℕ × V)) → IsRising (xs ++ ys) → value_at n ys ≡ Some v → value_at n (xs ++ ys) ≡ Some v
  value_at_right n v [] ys h k = k
  value_at_right n v (x ∷ xs) ys h k =
      let l = IsAbove_at x.0 n v (xs ++ ys) h.0 (value_at_right n v xs ys h.1 k) in
      let e = value_at_right n v xs ys h.1 k in
      grind (arith, common_steps)

  pub value_at_left : (n : ℕ) (v : V) (xs ys : List (ℕ × V)) → value_at n xs ≡ Some v → value_at n (xs ++ ys) ≡ Some v
  value_at_left n v [] ys h = cc
  value_at_left n v (x ∷ xs) ys h = grind (arith, common_steps, value_at_left n v xs ys)

  pub value_at_not_left : (n : ℕ) (xs ys : List (ℕ × V)) → value_at n xs ≡ None → value_at n (xs ++ ys) ≡ value_at n ys
  value_at_not_left n [] ys h = refl
  value_at_not_left n (x ∷ xs) ys h = grind (arith, common_steps, value_at_not_left n xs ys)

  -- the first key is held
  pub value_at_first : (n : ℕ) (xs : List (ℕ × V)) → first_key xs ≡ Some n → IsSome (value_at n xs)
  value_at_first n [] h = cc
  value_at_first n (x ∷ xs) h = let is : x.0 ≡ n = cc in grind (arith, common_steps)

  -- changes, one after another, at one key
  pub with_value_twice : (n : ℕ) (u v : V) (xs : List (ℕ × V)) → with_value n v (with_value n u xs) ≡ with_value n v xs
  with_value_twice n u v [] = refl
  with_value_twice n u v (x ∷ xs) = let e = with_value_twice n u v xs in grind (arith, common_steps)

  pub without_with : (n : ℕ) (v : V) (xs : List (ℕ × V)) → without n (with_value n v xs) ≡ without n xs
  without_with n v [] = refl
  without_with n v (x ∷ xs) = let e = without_with n v xs in grind (arith, common_steps)

  pub with_pair_twice : (n : ℕ) (u v : V) (xs : List (ℕ × V)) → with_pair n v (with_pair n u xs) ≡ with_pair n v xs
  with_pair_twice n u v [] = grind (arith, common_steps)
  with_pair_twice n u v (x ∷ xs) = let e = with_pair_twice n u v xs in grind (arith, common_steps)

  pub with_value_pair : (n : ℕ) (u v : V) (xs : List (ℕ × V)) → with_value n v (with_pair n u xs) ≡ with_pair n v xs
  with_value_pair n u v [] = grind (arith, common_steps)
  with_value_pair n u v (x ∷ xs) = let e = with_value_pair n u v xs in grind (arith, common_steps)

  pub with_pair_held : (n : ℕ) (u v : V) (xs : List (ℕ × V)) → IsRising xs → value_at n xs ≡ Some u → with_pair n v xs ≡ with_value n v xs
  with_pair_held n u v [] k h = cc
  with_pair_held n u v (x ∷ xs) k h =
      let rest : value_at n xs ≡ Some u → with_pair n v xs ≡ with_value n v xs = with_pair_held n u v xs k.1 in
      let above : value_at n xs ≡ Some u → x.0 < n = IsAbove_at x.0 n u xs k.0 in
      grind (arith, common_steps, rest, above)

  pub without_pair : (n : ℕ) (v : V) (xs : List (ℕ × V)) → value_at n xs ≡ None → without n (with_pair n v xs) ≡ xs
  without_pair n v [] h = grind (arith, common_steps)
  without_pair n v (x ∷ xs) h = grind (arith, common_steps, without_pair n v xs)

  -- lengths
  pub length_with : (n : ℕ) (v : V) (xs : List (ℕ × V)) → length (with_value n v xs) ≡ length xs
  length_with n v [] = refl
  length_with n v (x ∷ xs) = let e = length_with n v xs in grind (arith, common_steps)

  pub length_without : (n : ℕ) (v : V) (xs : List (ℕ × V)) → value_at n xs ≡ Some v → length (without n xs) + 1 ≡ length xs
  length_without n v [] h = cc
  length_without n v (x ∷ xs) h = grind (arith, common_steps, length_without n v xs)

  pub length_pair : (n : ℕ) (v : V) (xs : List (ℕ × V)) → value_at n xs ≡ None → length (with_pair n v xs) ≡ length xs + 1
  length_pair n v [] h = refl
  length_pair n v (x ∷ xs) h = grind (arith, common_steps, length_pair n v xs)

  -- the keys are those that are held
  pub keys_with : (n : ℕ) (v : V) (xs : List (ℕ × V)) → keys (with_value n v xs) ≡ keys xs
  keys_with n v [] = refl
  keys_with n v (x ∷ xs) = let e = keys_with n v xs in grind (arith, common_steps)

  pub length_keys : (xs : List (ℕ × V)) → length (keys xs) ≡ length xs
  length_keys [] = refl
  length_keys (x ∷ xs) = let e = length_keys xs in grind (arith, common_steps)

  pub keys_held : (n : ℕ) (xs : List (ℕ × V)) → list_any (λ one. n == one) (keys xs) ≡ holds_key n xs
  keys_held n [] = refl
  keys_held n (x ∷ xs) = let e = keys_held n xs in elim (n == x.0) as (λ b. (b || list_any (λ one. n == one) (keys xs)) ≡ is_some (cond b (Some x.1) (value_at n xs))) [ true ↦ refl | false ↦ e ]

  pub keys-append : (xs ys : List (ℕ × V)) → keys (xs ++ ys) ≡ keys xs ++ keys ys
  keys-append [] ys = refl
  keys-append (x ∷ xs) ys = ap (λ ks. x.0 ∷ ks) (keys-append xs ys)

  -- those that pass a test
  pub value_at_filter : (test : (ℕ × V) → Bool) (n : ℕ) (v : V) (xs : List (ℕ × V)) → value_at n xs ≡ Some v → test (n, v) ≡ true → value_at n (filter test xs) ≡ Some v
  value_at_filter test n v [] h t = cc
  value_at_filter test n v (x ∷ xs) h t = let e : value_at n xs ≡ Some v → value_at n (filter test xs) ≡ Some v = λ k. value_at_filter test n v xs k t in grind (arith, common_steps, e)
