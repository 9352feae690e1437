-- The greatest power of two that is no larger than a number.
use Rattle.std.proofs.Common.{◌≡◌, ◌<◌, ◌≤◌, ◌*◌, ◌^◌, ◌+◌, ◌⊎◌, inl, inr, max, ℕ, zero, suc, Bool, true, false, nat_le, if◌then◌else◌, refl, ap, sym, subst, ◌∙◌, arith}
use Rattle.std.proofs.lemmas.Bool.{le-leb, leb-false, leb-true, lt-leb}
use Rattle.std.proofs.lemmas.Nat.{pow_pos}
use Rattle.std.proofs.Math.Nat.{pow-succ'}
use Rattle.lnbd_copy.specs.Terms.{IsGreatestPower}
use Rattle.lnbd_conduct.specs.Terms.{greatest_power}

-- One power more: it fits, or it is too large.
pub power_more : (exponent most : ℕ) → nat_le (2 ^ suc exponent) most ≡ true → greatest_power (suc exponent) most ≡ 2 ^ suc exponent
unfolding greatest_power
power_more exponent most e = ap (λ (b : Bool). if b then 2 ^ suc exponent else greatest_power exponent most) e

pub power_same : (exponent most : ℕ) → nat_le (2 ^ suc exponent) most ≡ false → greatest_power (suc exponent) most ≡ greatest_power exponent most
unfolding greatest_power
power_same exponent most e = ap (λ (b : Bool). if b then 2 ^ suc exponent else greatest_power exponent most) e

pub power_none : (most : ℕ) → 1 ≡ greatest_power 0 most
unfolding greatest_power
power_none most = refl

pub power_fits : (exponent most next : ℕ) → next ≡ 2 * 2 ^ exponent → next ≤ most → next ≡ greatest_power (exponent + 1) most
power_fits exponent most next is fits =
    let more : next ≡ 2 ^ suc exponent = is ∙ sym (pow-succ' 2 exponent) in
    let after : suc exponent ≡ exponent + 1 = omega arith in
    subst (λ (n : ℕ). next ≡ greatest_power n most) after (more ∙ sym (power_more exponent most (le-leb (2 ^ suc exponent) most (subst (λ (n : ℕ). n ≤ most) more fits))))

pub power_stays : (exponent most next power : ℕ) → next ≡ 2 * 2 ^ exponent → most < next → power ≡ greatest_power exponent most → power ≡ greatest_power (exponent + 1) most
power_stays exponent most next power is large same =
    let more : next ≡ 2 ^ suc exponent = is ∙ sym (pow-succ' 2 exponent) in
    let after : suc exponent ≡ exponent + 1 = omega arith in
    subst (λ (n : ℕ). power ≡ greatest_power n most) after (same ∙ sym (power_same exponent most (lt-leb (2 ^ suc exponent) most (subst (λ (n : ℕ). most < n) more large))))

cases_le : (a b : ℕ) → (nat_le a b ≡ true) ⊎ (nat_le a b ≡ false)
cases_le a b = elim (nat_le a b) as (λ x. (x ≡ true) ⊎ (x ≡ false)) [ true ↦ inl refl | false ↦ inr refl ]

pub power_some : (exponent most : ℕ) → 0 < greatest_power exponent most
unfolding greatest_power
power_some zero most = omega arith
power_some (suc exponent) most = elim (cases_le (2 ^ suc exponent) most) [
  | inl e ↦ subst (λ (n : ℕ). 0 < n) (sym (power_more exponent most e)) (pow_pos (suc exponent))
  | inr e ↦ subst (λ (n : ℕ). 0 < n) (sym (power_same exponent most e)) (power_some exponent most)
]

-- It is no larger than the number, but where it is 1.

below_max : (power most : ℕ) → power ≤ most → power ≤ max most 1
below_max power most fits = omega (arith, fits)

pub power_most : (exponent most : ℕ) → greatest_power exponent most ≤ max most 1
unfolding greatest_power
power_most zero most = omega arith
power_most (suc exponent) most = elim (cases_le (2 ^ suc exponent) most) [
  | inl e ↦ subst (λ (n : ℕ). n ≤ max most 1) (sym (power_more exponent most e)) (below_max (2 ^ suc exponent) most (leb-true (2 ^ suc exponent) most e))
  | inr e ↦ subst (λ (n : ℕ). n ≤ max most 1) (sym (power_same exponent most e)) (power_most exponent most)
]

-- It is the greatest, where the next power of two is larger.
pub power_is_greatest : (exponent most : ℕ) → 0 < most → most < 2 * 2 ^ exponent → IsGreatestPower most (greatest_power exponent most)
unfolding greatest_power
power_is_greatest zero most some less = record { exponent = 0; is = refl; fits = some; greatest = less }
power_is_greatest (suc exponent) most some less = elim (cases_le (2 ^ suc exponent) most) [
  | inl e ↦ record {
    exponent = suc exponent;
    is = power_more exponent most e;
    fits = subst (λ (n : ℕ). n ≤ most) (sym (power_more exponent most e)) (leb-true (2 ^ suc exponent) most e);
    greatest = subst (λ (n : ℕ). most < 2 * n) (sym (power_more exponent most e)) less;
  }
  | inr e ↦
      let larger = leb-false (2 ^ suc exponent) most e in
      subst (IsGreatestPower most) (sym (power_same exponent most e)) (power_is_greatest exponent most some (subst (λ (n : ℕ). most < n) (pow-succ' 2 exponent) larger))
]
