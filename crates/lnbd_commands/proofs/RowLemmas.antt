-- Changes of one row.
use Rattle.std.proofs.Common.{◌≡◌, ℕ, List, [], ◌∷◌, Some, refl, arith}
use Rattle.std.proofs.lemmas.Grind.{common_steps}
use Rattle.lnbd_keyed.specs.Keyed.{value_at, with_value}

-- a row that is written as it was
pub with_value_same : {V : Type 0} (n : ℕ) (v : V) (xs : List (ℕ × V)) → value_at n xs ≡ Some v → with_value n v xs ≡ xs
with_value_same n v [] h = refl
with_value_same n v (x ∷ xs) h = grind (arith, common_steps, with_value_same n v xs)
