-- What was answered stays so while no byte moves; and counts, one call after another.
use Rattle.std.proofs.Common.{◌≡◌, ℕ, ◌≤◌, ◌==◌, Bool, true, false, not, ◌&&◌, ◌||◌, List, [], ◌∷◌, ◌++◌, refl, sym, ap, ◌∙◌, arith}
use Rattle.std.proofs.lemmas.Bool.{false≢true}
use Rattle.std.proofs.lemmas.Bool.Decides.{nat_tests}
use Rattle.std.proofs.lemmas.List.Folds.{list_any-append}
use Rattle.std.specs.List.{list_any}
use Rattle.lnbd_link.specs.Call.{Call}
use Rattle.lnbd_link.specs.Count.{Rises}
use Rattle.lnbd_serve.specs.Calm.{is_moving, since, was_since}
use Rattle.lnbd_serve.specs.Steps.{Counts}

pub same_number : (n : ℕ) → (n == n) ≡ true
same_number n = grind (arith, nat_tests)

or_false : (a b : Bool) → (a || b) ≡ false → (a ≡ false) × (b ≡ false)
or_false false b e = (refl, e)
or_false true b e = absurd (false≢true (sym e))

since_append : (p : Call → Bool) (was : Bool) (xs ys : List Call) → since p was (xs ++ ys) ≡ since p (since p was xs) ys
since_append p was [] ys = refl
since_append p was (c ∷ cs) ys = since_append p (p c || (not (is_moving c) && was)) cs ys

stays_true : (a b : Bool) → b ≡ false → (a || (not b && true)) ≡ true
stays_true true b e = refl
stays_true false false e = refl
stays_true false true e = absurd (false≢true (sym e))

since_calm : (p : Call → Bool) (ys : List Call) → list_any is_moving ys ≡ false → since p true ys ≡ true
since_calm p [] e = refl
since_calm p (c ∷ cs) e =
    let both = or_false (is_moving c) (list_any is_moving cs) e in
    ap (λ (b : Bool). since p b cs) (stays_true (p c) (is_moving c) both.0) ∙ since_calm p cs both.1

more_true : (x n a b : Bool) → (a ≡ true → b ≡ true) → (x || (n && a)) ≡ true → (x || (n && b)) ≡ true
more_true true n a b f e = refl
more_true false true a b f e = f e
more_true false false a b f e = e

since_more : (p : Call → Bool) (a b : Bool) (ys : List Call) → (a ≡ true → b ≡ true) → since p a ys ≡ true → since p b ys ≡ true
since_more p a b [] f e = f e
since_more p a b (c ∷ cs) f e = since_more p (p c || (not (is_moving c) && a)) (p c || (not (is_moving c) && b)) cs (more_true (p c) (not (is_moving c)) a b f) e

-- it was answered, and then nothing moved
pub was_before : (p : Call → Bool) (xs ys : List Call) → was_since p xs ≡ true → list_any is_moving ys ≡ false → was_since p (xs ++ ys) ≡ true
was_before p xs ys e calm = since_append p false xs ys ∙ ap (λ (b : Bool). since p b ys) e ∙ since_calm p ys calm

-- it was answered later
pub was_later : (p : Call → Bool) (xs ys : List Call) → was_since p ys ≡ true → was_since p (xs ++ ys) ≡ true
was_later p xs ys e = since_append p false xs ys ∙ since_more p false (since p false xs) ys (λ no. absurd (false≢true no)) e

pub calm_on : (xs ys : List Call) → list_any is_moving xs ≡ false → list_any is_moving ys ≡ false → list_any is_moving (xs ++ ys) ≡ false
calm_on xs ys a b = list_any-append is_moving xs ys ∙ ap (λ (x : Bool). x || list_any is_moving ys) a ∙ b

-- Counts.

pub counts_none : (f i : ℕ) → Counts false f f i i
counts_none f i = record { faults_later = omega arith; idles_later = omega arith; cause = λ e. absurd (false≢true e) }

pub counts_on : (b : Bool) (f g h i j k : ℕ) → Counts false f g i j → Counts b g h j k → Counts b f h i k
counts_on b f g h i j k one two = record {
  faults_later = omega (arith, one.faults_later, two.faults_later);
  idles_later = omega (arith, one.idles_later, two.idles_later);
  cause = λ e. let r : Rises 1 g h = two.cause e in omega (arith, one.faults_later, r);
}

pub counts_later : (f g h i j k : ℕ) → Counts false f g i j → g ≤ h → j ≤ k → Counts false f h i k
counts_later f g h i j k one later later' = record {
  faults_later = omega (arith, one.faults_later, later);
  idles_later = omega (arith, one.idles_later, later');
  cause = λ e. absurd (false≢true e);
}

-- and then there was a pause
pub counts_waited : (f g h i j k : ℕ) → Counts false f g i j → g ≤ h → Rises 1 j k → i ≤ 18446744073709551615 → Counts false f h i k
counts_waited f g h i j k one later rises most = record {
  faults_later = omega (arith, one.faults_later, later);
  idles_later = omega (arith, one.idles_later, rises, most);
  cause = λ e. absurd (false≢true e);
}
