-- How many rows there are is how many cookies have one.
use Rattle.std.proofs.Common.{◌≡◌, ℕ, ◌+◌, Bool, List, [], ◌∷◌, length, Option, Some, None, is_some, refl, ap, sym, ◌∙◌, arith, if◌then◌else◌}
use Rattle.lnbd_keyed.specs.Keyed.{value_at, IsAbove, IsBelow, IsRising}
use Rattle.lnbd_keyed.proofs.LookupLaws.{value_at_above, value_at_tail, value_at_head}
use Rattle.lnbd_history.proofs.Sums.{upto, upto_same, upto_zero, upto_one}
use Rattle.lnbd_machine.specs.Machine.{Row, flying}

module _ {K : Type 0} (weigh : Row K → ℕ) where
  total_of : List (ℕ × Row K) → ℕ
  total_of [] = 0
  total_of (x ∷ xs) = weigh x.1 + total_of xs

  weigh_at : Option (Row K) → ℕ
  weigh_at None = 0
  weigh_at (Some row) = weigh row

  total_upto : (rows : List (ℕ × Row K)) (n : ℕ) → IsRising rows → IsAbove 0 rows → IsBelow rows (n + 1) → total_of rows ≡ upto (λ c. weigh_at (value_at c rows)) n
  unfolding total_of weigh_at
  total_upto [] n rising above below = sym (upto_zero n)
  total_upto (x ∷ xs) n rising above below =
      let rest : total_of xs ≡ upto (λ c. weigh_at (value_at c xs)) n = total_upto xs n rising.1 above.1 below.1 in
      let all = upto_one (λ c. weigh_at (value_at c (x ∷ xs))) (λ c. weigh_at (value_at c xs)) x.0 (weigh x.1) n
      (λ c other. ap weigh_at (value_at_tail c x xs other))
      (ap weigh_at (value_at_above x.0 x.0 xs rising.0 (omega arith)))
      (ap weigh_at (value_at_head x.0 x.1 xs))
      (omega (arith, above.0)) (omega (arith, below.0)) in
      omega (arith, rest, all)

abbrev pub one_when : Bool → ℕ
one_when test = if test then 1 else 0

abbrev pub none_when : Bool → ℕ
none_when test = if test then 0 else 1

abbrev pub one_flying : {K : Type 0} → Option (Row K) → ℕ
one_flying None = 0
one_flying (Some row) = if is_some row.flight then 1 else 0

abbrev pub one_held : {K : Type 0} → Option (Row K) → ℕ
one_held None = 0
one_held (Some row) = 1

module _ {K : Type 0} where
  flying_total : (rows : List (ℕ × Row K)) → flying rows ≡ total_of (λ row. if is_some row.flight then 1 else 0) rows
  unfolding total_of
  flying_total [] = refl
  flying_total (x ∷ xs) = ap (λ (n : ℕ). (if is_some x.1.flight then 1 else 0) + n) (flying_total xs)

  length_total : (rows : List (ℕ × Row K)) → length rows ≡ total_of (λ row. 1) rows
  unfolding total_of
  length_total [] = refl
  length_total (x ∷ xs) = omega (arith, length_total xs)

  weigh_flying : (r : Option (Row K)) → weigh_at (λ row. if is_some row.flight then 1 else 0) r ≡ one_flying r
  unfolding weigh_at
  weigh_flying None = refl
  weigh_flying (Some row) = refl

  weigh_held : (r : Option (Row K)) → weigh_at (λ row. 1) r ≡ one_held r
  unfolding weigh_at
  weigh_held None = refl
  weigh_held (Some row) = refl

  pub flying_upto : (rows : List (ℕ × Row K)) (n : ℕ) → IsRising rows → IsAbove 0 rows → IsBelow rows (n + 1) → flying rows ≡ upto (λ c. one_flying (value_at c rows)) n
  flying_upto rows n rising above below =
      flying_total rows ∙ total_upto (λ row. if is_some row.flight then 1 else 0) rows n rising above below
      ∙ upto_same _ _ n (λ c low high. weigh_flying (value_at c rows))

  pub length_upto : (rows : List (ℕ × Row K)) (n : ℕ) → IsRising rows → IsAbove 0 rows → IsBelow rows (n + 1) → length rows ≡ upto (λ c. one_held (value_at c rows)) n
  length_upto rows n rising above below =
      length_total rows ∙ total_upto (λ row. 1) rows n rising above below
      ∙ upto_same _ _ n (λ c low high. weigh_held (value_at c rows))
