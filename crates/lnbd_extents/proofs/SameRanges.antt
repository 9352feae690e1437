-- Longest ranges that hold the same positions are the same list.
use Rattle.std.proofs.Common.{◌≡◌, ℕ, ◌+◌, ◌<◌, ◌≤◌, List, [], ◌∷◌, Bool, true, false, ◌||◌, refl, ap, sym, ◌∙◌, arith, inl, inr}
use Rattle.std.proofs.lemmas.Bool.{cases_order, false≢true}
use Rattle.std.proofs.lemmas.Grind.{common_steps}
use Rattle.lnbd_extents.specs.Positions.{within, holds}
use Rattle.lnbd_extents.specs.Ranges.{IsFrom}
use Rattle.lnbd_extents.proofs.PositionLaws.{holds_none}

first_held : (m : ℕ) (r : ℕ × ℕ) (rs : List (ℕ × ℕ)) → IsFrom m (r ∷ rs) → holds (r ∷ rs) r.0 ≡ true
first_held m r rs f = let some = f.1 in grind (arith, common_steps)

inside_held : (r : ℕ × ℕ) (rs : List (ℕ × ℕ)) (p : ℕ) → r.0 ≤ p → p < r.0 + r.1 → holds (r ∷ rs) p ≡ true
inside_held r rs p a b = grind (arith, common_steps)

end_not_held : (m : ℕ) (r : ℕ × ℕ) (rs : List (ℕ × ℕ)) → IsFrom m (r ∷ rs) → holds (r ∷ rs) (r.0 + r.1) ≡ false
end_not_held m r rs f = let h = holds_none (r.0 + r.1 + 1) (r.0 + r.1) rs f.2 (omega arith) in grind (arith, common_steps)

-- the first range of one begins no later than that of the other
begins : (m k : ℕ) (r q : ℕ × ℕ) (rs qs : List (ℕ × ℕ)) → IsFrom m (r ∷ rs) → IsFrom k (q ∷ qs) → ((p : ℕ) → holds (r ∷ rs) p ≡ holds (q ∷ qs) p) → q.0 < r.0 → ⊥
begins m k r q rs qs f g same less =
    let no : holds (r ∷ rs) q.0 ≡ false = holds_none r.0 q.0 (r ∷ rs) (omega arith, f.1, f.2) less in
    false≢true (sym no ∙ same q.0 ∙ first_held k q qs g)

-- nor is it longer
ends : (m k : ℕ) (r q : ℕ × ℕ) (rs qs : List (ℕ × ℕ)) → IsFrom m (r ∷ rs) → IsFrom k (q ∷ qs) → ((p : ℕ) → holds (r ∷ rs) p ≡ holds (q ∷ qs) p) → r.0 ≡ q.0 → r.1 < q.1 → ⊥
ends m k r q rs qs f g same start less =
    false≢true (sym (end_not_held m r rs f) ∙ same (r.0 + r.1) ∙ inside_held q qs (r.0 + r.1) (omega arith) (omega arith))

pub same_ranges : (m k : ℕ) (rs qs : List (ℕ × ℕ)) → IsFrom m rs → IsFrom k qs → ((p : ℕ) → holds rs p ≡ holds qs p) → rs ≡ qs
same_ranges m k [] [] f g same = refl
same_ranges m k [] (q ∷ qs) f g same = absurd (false≢true (same q.0 ∙ first_held k q qs g))
same_ranges m k (r ∷ rs) [] f g same = absurd (false≢true (sym (same r.0) ∙ first_held m r rs f))
same_ranges m k (r ∷ rs) (q ∷ qs) f g same = joined start size (λ tails. same_ranges (r.0 + r.1 + 1) (q.0 + q.1 + 1) rs qs f.2 g.2 tails)
  where
    start : r.0 ≡ q.0
    start = elim (cases_order r.0 q.0) [
      | inl e ↦ e
      | inr (inl less) ↦ absurd (begins k m q r qs rs g f (λ p. sym (same p)) less)
      | inr (inr less) ↦ absurd (begins m k r q rs qs f g same less)
    ]

    size : r.1 ≡ q.1
    size = elim (cases_order r.1 q.1) [
      | inl e ↦ e
      | inr (inl less) ↦ absurd (ends m k r q rs qs f g same start less)
      | inr (inr less) ↦ absurd (ends k m q r qs rs g f (λ p. sym (same p)) (sym start) less)
    ]

    joined : r.0 ≡ q.0 → r.1 ≡ q.1 → (((p : ℕ) → holds rs p ≡ holds qs p) → rs ≡ qs) → r ∷ rs ≡ q ∷ qs
    joined a b rest =
        let is : r ≡ q = ap (λ n. (n, r.1)) a ∙ ap (λ n. (q.0, n)) b in
        ap (λ x. x ∷ rs) is ∙ ap (λ xs. q ∷ xs) (rest tails)
      where
        tails : (p : ℕ) → holds rs p ≡ holds qs p
        tails p = go (within r p) refl
          where
            go : (t : Bool) → within r p ≡ t → holds rs p ≡ holds qs p
            go true w =
                let x : holds rs p ≡ false = holds_none (r.0 + r.1 + 1) p rs f.2 (grind (arith, common_steps)) in
                let y : holds qs p ≡ false = holds_none (q.0 + q.1 + 1) p qs g.2 (grind (arith, common_steps)) in
                x ∙ sym y
            go false w =
                let v : within q p ≡ false = ap (λ n. within (n, q.1) p) (sym a) ∙ ap (λ n. within (r.0, n) p) (sym b) ∙ w in
                ap (λ t. t || holds rs p) (sym w) ∙ same p ∙ ap (λ t. t || holds qs p) v
