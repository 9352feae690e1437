-- Cells of a grid: x / b is the number of the cell that has x.
use Rattle.std.proofs.Common.{zero, suc, ◌⊎◌, inl, inr, ◌≡◌, ℕ, ◌+◌, ◌-◌, ◌*◌, ◌/◌, ◌%◌, ◌<◌, ◌≤◌, subst, arith}
use Rattle.std.proofs.lemmas.Nat.{div-add-mod', div-mul-add}
use Rattle.std.proofs.Math.Nat.{mod-lt, lt-div-mul-add, div-mul-le_self, mul-mod_left}

-- positions from x up to the end of its cell are in its cell
pub same_cell : (b x p : ℕ) → 0 < b → x ≤ p → p < x + (b - x % b) → p / b ≡ x / b
same_cell b x p some from below =
    let whole : x / b * b + x % b ≡ x = div-add-mod' x b in
    let small : x % b < b = mod-lt x some in
    let least : p - x / b * b < b = omega arith in
    let sum : x / b * b + (p - x / b * b) ≡ p = omega arith in
    subst (λ (n : ℕ). n / b ≡ x / b) sum (div-mul-add (x / b) b (p - x / b * b) least)

-- a position of x's cell lies before its end
pub before_end : (b x y : ℕ) → 0 < b → y / b ≡ x / b → y < x + (b - x % b)
before_end b x y some same =
    let whole : x / b * b + x % b ≡ x = div-add-mod' x b in
    let small : x % b < b = mod-lt x some in
    let h : y < y / b * b + b = lt-div-mul-add some in
    let k : y < x / b * b + b = subst (λ (n : ℕ). y < n * b + b) same h in
    omega arith

-- where a cell begins at x, each position of the cell lies at x or behind it
pub from_begin : (b x y : ℕ) → x % b ≡ 0 → y / b ≡ x / b → x ≤ y
from_begin b x y begins same =
    let whole : x / b * b + x % b ≡ x = div-add-mod' x b in
    let h : y / b * b ≤ y = div-mul-le_self y b in
    let k : x / b * b ≤ y = subst (λ (n : ℕ). n * b ≤ y) same h in
    omega arith

-- the end of a cell is a multiple
pub end_begins : (b x : ℕ) → 0 < b → (x + (b - x % b)) % b ≡ 0
end_begins b x some =
    let whole : x / b * b + x % b ≡ x = div-add-mod' x b in
    let small : x % b < b = mod-lt x some in
    let more : (x / b + 1) * b ≡ x / b * b + b = omega arith in
    let e : (x / b + 1) * b ≡ x + (b - x % b) = omega arith in
    subst (λ (n : ℕ). n % b ≡ 0) e (mul-mod_left (x / b + 1) b)

-- between a position and the end of its cell lies no multiple
pub no_multiple : (b x p : ℕ) → 0 < b → x < p → p < x + (b - x % b) → p % b ≡ 0 → ⊥
no_multiple b x p some from below is0 =
    let same : p / b ≡ x / b = same_cell b x p some (omega arith) below in
    let whole : x / b * b + x % b ≡ x = div-add-mod' x b in
    let whole_p : p / b * b + p % b ≡ p = div-add-mod' p b in
    let k : x / b * b + p % b ≡ p = subst (λ (n : ℕ). n * b + p % b ≡ p) same whole_p in
    omega arith

pub less_or_not : (a b : ℕ) → (a < b) ⊎ (b ≤ a)
less_or_not zero zero = inr (omega arith)
less_or_not zero (suc b) = inl (omega arith)
less_or_not (suc a) zero = inr (omega arith)
less_or_not (suc a) (suc b) = elim (less_or_not a b) [ inl h ↦ inl (omega arith) | inr h ↦ inr (omega arith) ]

-- the next position begins a cell, or is in the same one
pub cell_step : (c s : ℕ) → 0 < c → (((s + 1) % c ≡ 0 → ⊥) × ((s + 1) / c ≡ s / c)) ⊎ (((s + 1) % c ≡ 0) × ((s + 1) / c ≡ s / c + 1))
cell_step c s some =
    let small : s % c < c = mod-lt s some in
    let whole : s / c * c + s % c ≡ s = div-add-mod' s c in
    elim (less_or_not (s % c + 1) c) [
      | inl h ↦ inl (no_multiple c s (s + 1) some (omega arith) (omega arith), same_cell c s (s + 1) some (omega arith) (omega arith))
      | inr h ↦
          let at : s + (c - s % c) ≡ s + 1 = omega arith in
          let more : (s / c + 1) * c ≡ s / c * c + c = omega arith in
          let sum : (s / c + 1) * c + 0 ≡ s + 1 = omega arith in
          inr (subst (λ (n : ℕ). n % c ≡ 0) at (end_begins c s some), subst (λ (n : ℕ). n / c ≡ s / c + 1) sum (div-mul-add (s / c + 1) c 0 some))
    ]
