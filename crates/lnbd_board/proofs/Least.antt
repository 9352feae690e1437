-- The first of the least.
use Rattle.std.proofs.Common.{◌≡◌, ℕ, ◌+◌, ◌<◌, ◌≤◌, ◌⊎◌, inl, inr, List, slice_index, subst, sym, arith}
use Rattle.std.proofs.lemmas.Bool.{cases_lt}
use Rattle.lnbd_board.specs.Bound.{IsLeastOf}

last_or : (i n : ℕ) → i < n + 1 → (i < n) ⊎ (i ≡ n)
last_or i n l = elim (cases_lt i n) [ inl k ↦ inl k | inr k ↦ inr (omega (arith, l, k)) ]

pub least_same : (counts : List ℕ) (n best : ℕ) → IsLeastOf counts n best → best ≤ n → slice_index counts best ≤ slice_index counts n → IsLeastOf counts (n + 1) best
least_same counts n best h w l = record {
  least = λ i k. elim (last_or i n k) [ inl m ↦ h.least i m | inr e ↦ subst (λ (x : ℕ). slice_index counts best ≤ slice_index counts x) (sym e) l ];
  first = λ i k m. h.first i k (omega (arith, k, w));
}

pub least_new : (counts : List ℕ) (n best : ℕ) → IsLeastOf counts n best → slice_index counts n < slice_index counts best → IsLeastOf counts (n + 1) n
least_new counts n best h l = record {
  least = λ i k. elim (last_or i n k) [ inl m ↦ (let o = h.least i m in omega (arith, o, l)) | inr e ↦ subst (λ (x : ℕ). slice_index counts n ≤ slice_index counts x) (sym e) (omega arith) ];
  first = λ i k m. (let o = h.least i k in omega (arith, o, l));
}
