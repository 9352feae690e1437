-- Slices are the longest runs.
use Rattle.std.proofs.Common.{◌≡◌, ℕ, zero, suc, ◌+◌, ◌≤◌, ◌⊎◌, ◌||◌, Bool, true, false, not, List, [], ◌∷◌, subst, sym, ◌∙◌, ap, refl, inl, inr, arith, if◌then◌else◌}
use Rattle.lnbd_plan.specs.declared.grid.Slice.{Slice}
use Rattle.lnbd_plan.specs.Slices.{slice, unlike, growing, slices_of}
use Rattle.lnbd_plan.specs.Laws.{LieBetween, IsWhole, AreWhole, ArePartedBy, SlicesAreLongest}

-- the slices begin here, and what the first one is told
abbrev pub BeginWith : ℕ → Bool → List Slice → Type 0
BeginWith p told [] = Unit {0}
BeginWith p told (s ∷ ss) = (s.start ≡ p) × (s.zero ≡ told)

pub one_whole : (told cut : ℕ → Bool) (p : ℕ) (z : Bool) → told p ≡ z → IsWhole told cut (slice p 1 z)
one_whole told cut p z same = record {
  alike = λ q le lt. let e : p ≡ q = omega arith in subst (λ (m : ℕ). told m ≡ z) e same;
  uncut = λ q le lt. absurd (omega arith);
}

pub first_or : (p q : ℕ) → p ≤ q → (p ≡ q) ⊎ (p + 1 ≤ q)
first_or zero zero le = inl refl
first_or zero (suc q) le = inr (omega arith)
first_or (suc p) zero le = absurd (omega arith)
first_or (suc p) (suc q) le = elim (first_or p q (omega arith)) [ inl e ↦ inl (ap (λ (n : ℕ). suc n) e) | inr h ↦ inr (omega arith) ]

pub more_whole : (told cut : ℕ → Bool) (p : ℕ) (z : Bool) (s : Slice) → told p ≡ z → cut (p + 1) ≡ false → s.start ≡ p + 1 → s.zero ≡ z
    → IsWhole told cut s → IsWhole told cut (slice p (suc s.length) z)
more_whole told cut p z s same uncut_next begins zero_is whole = record {
  alike = λ q le lt. elim (first_or p q le) [ inl e ↦ subst (λ (m : ℕ). told m ≡ z) e same | inr h ↦ whole.alike q (omega arith) (omega arith) ∙ zero_is ];
  uncut = λ q le lt. elim (first_or (p + 1) q (omega arith)) [ inl e ↦ subst (λ (m : ℕ). cut m ≡ false) e uncut_next | inr h ↦ whole.uncut q (omega arith) (omega arith) ];
}

pub alike_of : (a b : Bool) → unlike a b ≡ false → b ≡ a
alike_of true true e = refl
alike_of true false e = cc
alike_of false true e = cc
alike_of false false e = refl

pub unlike_of : (a b : Bool) → unlike a b ≡ true → b ≡ not a
unlike_of true true e = cc
unlike_of true false e = refl
unlike_of false true e = refl
unlike_of false false e = cc

pub record Longest (told cut : ℕ → Bool) (start n : ℕ) (slices : List Slice) : Type 0 where
  pub between : LieBetween start (start + n) slices
  pub whole : AreWhole told cut slices
  pub parted : ArePartedBy cut slices
  pub begin : BeginWith start (told start) slices

pub end_is : (a b e f : ℕ) (slices : List Slice) → a ≡ b → e ≡ f → LieBetween a e slices → LieBetween b f slices
end_is a b e f slices h k l = subst (λ (m : ℕ). LieBetween b m slices) k (subst (λ (m : ℕ). LieBetween m e slices) h l)

pub parted_alone : (cut : ℕ → Bool) (p : ℕ) (z next : Bool) (slices : List Slice) → (cut (p + 1) ≡ true) ⊎ (next ≡ not z) → BeginWith (p + 1) next slices
    → ArePartedBy cut slices → ArePartedBy cut (slice p 1 z ∷ slices)
parted_alone cut p z next [] h begin parted = tt
parted_alone cut p z next (s ∷ ss) h begin parted =
    (elim h [ inl k ↦ inl (subst (λ (m : ℕ). cut m ≡ true) (sym begin.0) k) | inr k ↦ inr (begin.1 ∙ k) ], parted)

pub parted_grown : (cut : ℕ → Bool) (p : ℕ) (z : Bool) (s : Slice) (ss : List Slice) → s.zero ≡ z → ArePartedBy cut (s ∷ ss) → ArePartedBy cut (slice p (suc s.length) z ∷ ss)
parted_grown cut p z s [] same parted = tt
parted_grown cut p z s (t ∷ ss) same parted =
    (elim parted.0 [ inl k ↦ inl k | inr k ↦ inr (k ∙ ap not same) ], parted.1)

pub put_alone : (told cut : ℕ → Bool) (p n : ℕ) (slices : List Slice) → (cut (p + 1) ≡ true) ⊎ (told (p + 1) ≡ not (told p)) → Longest told cut (p + 1) n slices
    → Longest told cut p (suc n) (slice p 1 (told p) ∷ slices)
put_alone told cut p n slices h l = record {
  between = (refl, omega arith, end_is (p + 1) (p + 1) (p + 1 + n) (p + suc n) slices refl (omega arith) l.between);
  whole = (one_whole told cut p (told p) refl, l.whole);
  parted = parted_alone cut p (told p) (told (p + 1)) slices h l.begin l.parted;
  begin = (refl, refl);
}

pub step : (told cut : ℕ → Bool) (p n : ℕ) (c d : Bool) (slices : List Slice) → cut (p + 1) ≡ c → unlike (told p) (told (p + 1)) ≡ d → Longest told cut (p + 1) n slices
    → Longest told cut p (suc n) (if c || d then slice p 1 (told p) ∷ slices else growing p (told p) slices)
step told cut p n true d slices ce de l = put_alone told cut p n slices (inl ce) l
step told cut p n false true slices ce de l = put_alone told cut p n slices (inr (unlike_of (told p) (told (p + 1)) de)) l
step told cut p n false false [] ce de l = record {
  between = (refl, omega arith, omega (arith, l.between));
  whole = (one_whole told cut p (told p) refl, tt);
  parted = tt;
  begin = (refl, refl);
}
step told cut p n false false (s ∷ ss) ce de l =
    let same = alike_of (told p) (told (p + 1)) de in
    let zero_is = l.begin.1 ∙ same in record {
      between = (refl, omega arith, end_is (p + 1 + s.length) (p + suc s.length) (p + 1 + n) (p + suc n) ss (omega arith) (omega arith) l.between.2);
      whole = (more_whole told cut p (told p) s refl ce l.begin.0 zero_is l.whole.0, l.whole.1);
      parted = parted_grown cut p (told p) s ss zero_is l.parted;
      begin = (refl, refl);
    }

pub all_longest : (told cut : ℕ → Bool) (start n : ℕ) → Longest told cut start n (slices_of told cut start n)
unfolding slices_of
all_longest told cut start zero = record { between = omega arith; whole = tt; parted = tt; begin = tt }
all_longest told cut start (suc n) = step told cut start n _ _ (slices_of told cut (start + 1) n) refl refl (all_longest told cut (start + 1) n)

pub longest : SlicesAreLongest
longest told cut start n = let l = all_longest told cut start n in record { between = l.between; whole = l.whole; parted = l.parted }
