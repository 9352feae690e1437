-- Tests as facts, and the parts of a list.
use Rattle.std.proofs.Common.{◌≡◌, ℕ, ◌+◌, ◌≤◌, Bool, true, false, ◌&&◌, List, [], ◌∷◌, ◌++◌, length, take, drop, refl, sym, ◌∙◌, arith, nat_le, ◌==◌}
use Rattle.std.proofs.lemmas.List.{drop-drop}
use Rattle.std.proofs.Math.Seq.{drop-append_seam, take-append_seam}

pub le_true : (m n : ℕ) → m ≤ n → nat_le m n ≡ true
le_true m n h = grind (arith, h)

pub both_true : (a b : Bool) → a ≡ true → b ≡ true → (a && b) ≡ true
both_true a b e h = rw (e, h) refl

-- The first part and what follows it.
pub parts : (n : ℕ) (bytes name rest : List ℕ) → n ≡ length name → drop 4 bytes ≡ name ++ rest → (take n (drop 4 bytes) ≡ name) × (drop (4 + n) bytes ≡ rest)
parts n bytes name rest e h =
    let first : take (length name) (name ++ rest) ≡ name = take-append_seam name rest in
    let second : drop (length name) (name ++ rest) ≡ rest = drop-append_seam name rest in
    (rw (e, h) first, sym (drop-drop n 4 bytes) ∙ rw (e, h) second)

pub le_of : (m n : ℕ) → nat_le m n ≡ true → m ≤ n
le_of m n e = grind (arith, e)

pub eq_of : (m n : ℕ) → (m == n) ≡ true → m ≡ n
eq_of m n e = grind (arith, e)

pub both_of : (a b : Bool) → (a && b) ≡ true → (a ≡ true) × (b ≡ true)
both_of true true e = (refl, refl)
both_of true false e = absurd (cc)
both_of false b e = absurd (cc)

pub nothing : (xs : List ℕ) → length xs ≡ 0 → xs ≡ []
nothing [] e = refl
nothing (x ∷ xs) e = absurd (omega (arith, e))

pub same_true : (m n : ℕ) → m ≡ n → (m == n) ≡ true
same_true m n e = grind (arith, e)
