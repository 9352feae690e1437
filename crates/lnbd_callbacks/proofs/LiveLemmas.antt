-- Lemmas on the live numbers: an ordered map's entries as a list of pairs, and the notes that they owe.
use Rattle.std.proofs.Common.{◌≡◌, ℕ, ◌+◌, ◌<◌, ◌≤◌, List, [], ◌∷◌, ◌++◌, Bool, true, false, refl, arith, Some, ◌==◌}
use Rattle.std.proofs.lemmas.Grind.{common_steps}
use Rattle.std.specs.Ordering.{nat_cmp, is_eq}
use Rattle.std.specs.Cmp.{nat_cmp_is}
use Rattle.std.specs.declared.cmp.Ordering.TheVariants.{Greater}
use Rattle.std.specs.Map.{lookup, remove_entry, set_value}
use Rattle.std.specs.BTreeMap.{is_at, insert_entry}
use Rattle.lnbd_keyed.specs.Keyed.{value_at, with_value, without, IsBelow}
use Rattle.lnbd_keyed.proofs.KeyedLemmas.{IsBelow_append, IsBelow_less}
use Rattle.lnbd_callbacks.specs.Sound.{owed_by, owed_for}

-- a number compares equal to itself alone
pub is_eq-nat_cmp : (n k : ℕ) → is_eq (nat_cmp n k) ≡ (n == k)
is_eq-nat_cmp n k = grind (arith, common_steps)

module _ {V : Type 0} where
  -- the entry of a key, looked up in a map of the standard library
  pub lookup-value_at : (n : ℕ) (xs : List (ℕ × V)) → lookup (is_at (nat_cmp n)) xs ≡ value_at n xs
  lookup-value_at n [] = refl
  lookup-value_at n (x ∷ xs) = let e = is_eq-nat_cmp n x.0 in let rest = lookup-value_at n xs in grind (arith, common_steps)

  pub remove_entry-without : (n : ℕ) (xs : List (ℕ × V)) → remove_entry (is_at (nat_cmp n)) xs ≡ without n xs
  remove_entry-without n [] = refl
  remove_entry-without n (x ∷ xs) = let e = is_eq-nat_cmp n x.0 in let rest = remove_entry-without n xs in grind (arith, common_steps)

  pub set_value-with_value : (n : ℕ) (v : V) (xs : List (ℕ × V)) → set_value (is_at (nat_cmp n)) xs v ≡ with_value n v xs
  set_value-with_value n v [] = refl
  set_value-with_value n v (x ∷ xs) = let e = is_eq-nat_cmp n x.0 in let rest = set_value-with_value n v xs in grind (arith, common_steps)

  -- keys below one, and that one, are below the next
  pub IsBelow-next : (n : ℕ) (v : V) (xs : List (ℕ × V)) → IsBelow xs n → IsBelow (xs ++ (n, v) ∷ []) (n + 1)
  IsBelow-next n v xs below = IsBelow_append (n + 1) n v xs (IsBelow_less n (n + 1) xs (omega arith) below) (omega arith)

  -- a key above all others goes to the end
  pub insert_entry-last : (n : ℕ) (v : V) (xs : List (ℕ × V)) → IsBelow xs n → insert_entry nat_cmp xs n v ≡ xs ++ (n, v) ∷ []
  insert_entry-last n v [] below = refl
  insert_entry-last n v (x ∷ xs) below =
      let first : x.0 < n = below.0 in
      let e : Greater ≡ nat_cmp n x.0 = nat_cmp_is n x.0 Greater first in
      let rest = insert_entry-last n v xs below.1 in
      grind (arith, common_steps)

-- one number more owes two notes more
pub owed_by-append : (xs : List (ℕ × Bool)) (n : ℕ) → owed_by (xs ++ (n, false) ∷ []) ≡ owed_by xs + 2
owed_by-append [] n = refl
owed_by-append (x ∷ xs) n = let e = owed_by-append xs n in omega (arith, e)

-- a completed number owes one note less
pub owed_by-with_value : (n : ℕ) (xs : List (ℕ × Bool)) → value_at n xs ≡ Some false → owed_by xs ≡ owed_by (with_value n true xs) + 1
owed_by-with_value n [] h = cc
owed_by-with_value n (x ∷ xs) h = grind (arith, common_steps, owed_by-with_value n xs)

-- a freed number owes nothing
pub owed_by-without : (n : ℕ) (b : Bool) (xs : List (ℕ × Bool)) → value_at n xs ≡ Some b → owed_by xs ≡ owed_by (without n xs) + owed_for b
owed_by-without n b [] h = cc
owed_by-without n b (x ∷ xs) h = grind (arith, common_steps, owed_by-without n b xs)

-- a live callback owes its end at least
pub owed_for-positive : (b : Bool) → 1 ≤ owed_for b
owed_for-positive true = omega arith
owed_for-positive false = omega arith
