-- Maps that hold the same are the same list.
use Rattle.std.proofs.Common.{◌≡◌, ◌≢◌, ℕ, ◌<◌, List, [], ◌∷◌, Bool, true, false, refl, ap, sym, ◌∙◌, arith, Some, None, ◌==◌, ◌⊎◌, inl, inr}
use Rattle.std.proofs.lemmas.Bool.{cases_order}
use Rattle.std.proofs.lemmas.Grind.{common_steps}
use Rattle.lnbd_keyed.specs.Keyed.{value_at, with_pair, IsAbove, IsRising}
use Rattle.lnbd_keyed.proofs.OrderLaws.{IsRising_pair}
use Rattle.lnbd_keyed.proofs.LookupLaws.{value_at_above, value_at_head, value_at_tail, value_at_pair, value_at_pair_other}

module _ {V : Type 0} where
  pub same_map : (xs ys : List (ℕ × V)) → IsRising xs → IsRising ys → ((n : ℕ) → value_at n xs ≡ value_at n ys) → xs ≡ ys
  same_map [] [] rx ry same = refl
  same_map [] (y ∷ ys) rx ry same = let e : None ≡ Some y.1 = same y.0 ∙ value_at_head y.0 y.1 ys in cc
  same_map (x ∷ xs) [] rx ry same = let e : None ≡ Some x.1 = sym (same x.0) ∙ value_at_head x.0 x.1 xs in cc
  same_map (x ∷ xs) (y ∷ ys) rx ry same = go (cases_order x.0 y.0) (λ tails. same_map xs ys rx.1 ry.1 tails)
    where
      -- a key below the first is held nowhere
      missing : (z : ℕ × V) (zs : List (ℕ × V)) (n : ℕ) → IsAbove z.0 zs → n < z.0 → value_at n (z ∷ zs) ≡ None
      missing z zs n up less = value_at_tail n z zs (omega arith) ∙ value_at_above n z.0 zs up (omega arith)

      tails : x.0 ≡ y.0 → (n : ℕ) → value_at n xs ≡ value_at n ys
      tails e n = at (n == x.0) refl
        where
          at : (b : Bool) → (n == x.0) ≡ b → value_at n xs ≡ value_at n ys
          at true w = let is : n ≡ x.0 = grind (arith, common_steps) in value_at_above n x.0 xs rx.0 (omega arith) ∙ sym (value_at_above n y.0 ys ry.0 (omega arith))
          at false w = let other : n ≢ x.0 = grind (arith, common_steps) in sym (value_at_tail n x xs other) ∙ same n ∙ value_at_tail n y ys (grind (arith, common_steps))

      go : (x.0 ≡ y.0) ⊎ ((x.0 < y.0) ⊎ (y.0 < x.0)) → (((n : ℕ) → value_at n xs ≡ value_at n ys) → xs ≡ ys) → x ∷ xs ≡ y ∷ ys
      go (inl e) rest =
          let t : xs ≡ ys = rest (tails e) in
          let v : Some x.1 ≡ Some y.1 = sym (value_at_head x.0 x.1 xs) ∙ same x.0 ∙ ap (λ n. value_at n (y ∷ ys)) e ∙ value_at_head y.0 y.1 ys in
          let w : x.1 ≡ y.1 = cc in
          let p : x ≡ y = ap (λ n. (n, x.1)) e ∙ ap (λ u. (y.0, u)) w in
          ap (λ z. z ∷ xs) p ∙ ap (λ zs. y ∷ zs) t
      go (inr (inl less)) rest = let e : None ≡ Some x.1 = sym (missing y ys x.0 ry.0 less) ∙ sym (same x.0) ∙ value_at_head x.0 x.1 xs in cc
      go (inr (inr less)) rest = let e : None ≡ Some y.1 = sym (missing x xs y.0 rx.0 less) ∙ same y.0 ∙ value_at_head y.0 y.1 ys in cc

  -- changes at two keys, in either order
  pub with_pair_swap : (m n : ℕ) (u v : V) (xs : List (ℕ × V)) → IsRising xs → m ≢ n → with_pair m u (with_pair n v xs) ≡ with_pair n v (with_pair m u xs)
  with_pair_swap m n u v xs r other = same_map (with_pair m u (with_pair n v xs)) (with_pair n v (with_pair m u xs)) (IsRising_pair m u (with_pair n v xs) (IsRising_pair n v xs r)) (IsRising_pair n v (with_pair m u xs) (IsRising_pair m u xs r)) at
    where
      at : (k : ℕ) → value_at k (with_pair m u (with_pair n v xs)) ≡ value_at k (with_pair n v (with_pair m u xs))
      at k = go (k == m) (k == n) refl refl
        where
          go : (a b : Bool) → (k == m) ≡ a → (k == n) ≡ b → value_at k (with_pair m u (with_pair n v xs)) ≡ value_at k (with_pair n v (with_pair m u xs))
          go true b e f =
              let is : k ≡ m = grind (arith, common_steps) in
              let o : k ≢ n = grind (arith, common_steps) in
              ap (λ z. value_at z (with_pair m u (with_pair n v xs))) is ∙ value_at_pair m u (with_pair n v xs) ∙ sym (value_at_pair m u xs) ∙ ap (λ z. value_at z (with_pair m u xs)) (sym is) ∙ sym (value_at_pair_other k n v (with_pair m u xs) o)
          go false true e f =
              let is : k ≡ n = grind (arith, common_steps) in
              let o : k ≢ m = grind (arith, common_steps) in
              value_at_pair_other k m u (with_pair n v xs) o ∙ ap (λ z. value_at z (with_pair n v xs)) is ∙ value_at_pair n v xs ∙ sym (value_at_pair n v (with_pair m u xs)) ∙ ap (λ z. value_at z (with_pair n v (with_pair m u xs))) (sym is)
          go false false e f =
              let o : k ≢ m = grind (arith, common_steps) in
              let p : k ≢ n = grind (arith, common_steps) in
              value_at_pair_other k m u (with_pair n v xs) o ∙ value_at_pair_other k n v xs p ∙ sym (value_at_pair_other k m u xs o) ∙ sym (value_at_pair_other k n v (with_pair m u xs) p)
