-- A sum after one value of a map changed.
use Rattle.std.proofs.Common.{◌≡◌, ℕ, ◌+◌, true, false, cond, List, [], ◌∷◌, Some, ap, arith, ◌==◌}
use Rattle.lnbd_keyed.specs.Keyed.{value_at, with_value, without}
use Rattle.lnbd_bounds.specs.Budget.{total_of}

module _ {V : Type 0} (measure : V → ℕ) (key : ℕ) (old : V) where
  same_measure : (v : V) → Some v ≡ Some old → measure v ≡ measure old
  same_measure v e = let same : v ≡ old = cc in ap measure same

  pub total_with : (new : V) (xs : List (ℕ × V)) → value_at key xs ≡ Some old → total_of measure (with_value key new xs) + measure old ≡ total_of measure xs + measure new
  total_with new [] e = absurd (cc (e))
  total_with new (x ∷ xs) e =
      elim (key == x.0) as (λ b. cond b (Some x.1) (value_at key xs) ≡ Some old → total_of measure (cond b ((x.0, new) ∷ xs) (x ∷ with_value key new xs)) + measure old ≡ total_of measure (x ∷ xs) + measure new) [
        | true ↦ λ e. omega (arith, same_measure x.1 e)
        | false ↦ λ e. omega (arith, total_with new xs e)
      ] e

  pub total_without : (xs : List (ℕ × V)) → value_at key xs ≡ Some old → total_of measure (without key xs) + measure old ≡ total_of measure xs
  total_without [] e = absurd (cc (e))
  total_without (x ∷ xs) e =
      elim (key == x.0) as (λ b. cond b (Some x.1) (value_at key xs) ≡ Some old → total_of measure (cond b xs (x ∷ without key xs)) + measure old ≡ total_of measure (x ∷ xs)) [
        | true ↦ λ e. omega (arith, same_measure x.1 e)
        | false ↦ λ e. omega (arith, total_without xs e)
      ] e
