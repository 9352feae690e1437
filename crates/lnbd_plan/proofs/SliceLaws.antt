-- Slices, run by run.
use Rattle.std.proofs.Common.{◌≡◌, ℕ, zero, suc, ◌+◌, ◌<◌, ◌≤◌, ◌⊎◌, ◌||◌, Bool, true, false, not, List, [], ◌∷◌, subst, sym, ◌∙◌, ap, refl, inl, inr, arith, cond}
use Rattle.lnbd_plan.specs.declared.grid.Slice.{Slice}
use Rattle.lnbd_plan.specs.Slices.{slice, unlike, growing, slices_of}

pub unlike_same : (a b : Bool) → a ≡ b → unlike a b ≡ false
unlike_same true true e = refl
unlike_same true false e = cc
unlike_same false true e = cc
unlike_same false false e = refl

pub unlike_other : (a b : Bool) → b ≡ not a → unlike a b ≡ true
unlike_other true true e = cc
unlike_other true false e = refl
unlike_other false true e = refl
unlike_other false false e = cc

-- what ends a run of positions told z: nothing is left, or the next position is cut off or told otherwise
pub data Ends (told cut : ℕ → Bool) (z : Bool) (p rest : ℕ) : Type 0 where
  Nothing : rest ≡ 0 → Ends told cut z p rest
  Cut : cut p ≡ true → Ends told cut z p rest
  Other : told p ≡ not z → Ends told cut z p rest

pub alone : (c : Bool) (s : ℕ) (t z : Bool) (xs : List Slice) → (c ≡ true) ⊎ (xs ≡ []) → t ≡ z
    → cond c (slice s 1 t ∷ xs) (growing s t xs) ≡ slice s 1 z ∷ xs
alone true s t z xs h e = ap (λ (b : Bool). slice s 1 b ∷ xs) e
alone false s t z [] h e = ap (λ (b : Bool). slice s 1 b ∷ []) e
alone false s t z (x ∷ xs) h e = elim h [ inl k ↦ cc | inr k ↦ cc ]

pub grown : (c : Bool) (s n k : ℕ) (t z : Bool) (xs ys : List Slice) → c ≡ false → t ≡ z → xs ≡ slice n k z ∷ ys
    → cond c (slice s 1 t ∷ xs) (growing s t xs) ≡ slice s (suc k) z ∷ ys
grown true s n k t z xs ys not_so e is = cc
grown false s n k t z xs ys _ e is = rw is (ap (λ (b : Bool). slice s (suc k) b ∷ ys) e)

pub either_true : (a b : Bool) → (a ≡ true) ⊎ (b ≡ true) → a || b ≡ true
either_true true b h = refl
either_true false b h = elim h [ inl k ↦ cc | inr k ↦ k ]

pub both_false : (a b : Bool) → a ≡ false → b ≡ false → a || b ≡ false
both_false a b h k = rw (h, k) refl

pub ends_here : (told cut : ℕ → Bool) (z : Bool) (s n : ℕ) → told s ≡ z → Ends told cut z (s + 1) n
    → (cut (s + 1) || unlike (told s) (told (s + 1)) ≡ true) ⊎ (slices_of told cut (s + 1) n ≡ [])
unfolding slices_of
ends_here told cut z s n same (Nothing e) = inr (rw e refl)
ends_here told cut z s n same (Cut e) = inl (either_true (cut (s + 1)) (unlike (told s) (told (s + 1))) (inl e))
ends_here told cut z s n same (Other e) = inl (either_true (cut (s + 1)) (unlike (told s) (told (s + 1))) (inr (unlike_other (told s) (told (s + 1)) (rw same e))))

-- a run is the first slice
pub run_first : (told cut : ℕ → Bool) (z : Bool) (s n k q rest : ℕ) → n ≡ k + rest → q ≡ s + k → 0 < k
    → ((p : ℕ) → s ≤ p → p < q → told p ≡ z)
    → ((p : ℕ) → s < p → p < q → cut p ≡ false)
    → Ends told cut z q rest
    → slices_of told cut s n ≡ slice s k z ∷ slices_of told cut q rest
unfolding slices_of
run_first told cut z s n zero q rest e at some same whole ends = absurd (omega arith)
run_first told cut z s zero (suc k) q rest e at some same whole ends = absurd (omega arith)
run_first told cut z s (suc n) (suc zero) q rest e at some same whole ends =
    let left : n ≡ rest = omega arith in
    let first : told s ≡ z = same s (omega arith) (omega arith) in
    subst (λ (m : ℕ). slices_of told cut s (suc m) ≡ slice s 1 z ∷ slices_of told cut q rest) (sym left)
    (subst (λ (m : ℕ). slices_of told cut s (suc rest) ≡ slice s 1 z ∷ slices_of told cut m rest) (sym at)
    (alone (cut (s + 1) || unlike (told s) (told (s + 1))) s (told s) z (slices_of told cut (s + 1) rest)
    (ends_here told cut z s rest first (subst (λ (m : ℕ). Ends told cut z m rest) at ends)) first))
run_first told cut z s (suc n) (suc (suc k)) q rest e at some same whole ends =
    let first : told s ≡ z = same s (omega arith) (omega arith) in
    let second : told (s + 1) ≡ z = same (s + 1) (omega arith) (omega arith) in
    let uncut : cut (s + 1) ≡ false = whole (s + 1) (omega arith) (omega arith) in
    grown (cut (s + 1) || unlike (told s) (told (s + 1))) s (s + 1) (suc k) (told s) z (slices_of told cut (s + 1) n) (slices_of told cut q rest)
    (both_false (cut (s + 1)) (unlike (told s) (told (s + 1))) uncut (unlike_same (told s) (told (s + 1)) (first ∙ sym second)))
    first
    (run_first told cut z (s + 1) n (suc k) q rest (omega arith) (omega arith) (omega arith) (λ p le lt. same p (omega arith) lt) (λ p le lt. whole p (omega arith) lt) ends)
