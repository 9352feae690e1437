-- Of slices by their numbers, those that have a row are as many as the rows. Nothing of links here.
use Rattle.std.proofs.Common.{◌≡◌, ◌≢◌, inl, inr, ℕ, suc, ◌+◌, ◌<◌, ◌≤◌, Bool, true, false, List, [], ◌∷◌, cond, length, Option, Some, None, refl, ap, sym, subst, ◌∙◌, arith}
use Rattle.std.proofs.lemmas.Bool.{cases_eq, cases_lt}
use Rattle.lnbd_keyed.specs.Keyed.{IsAbove, IsBelow, IsRising, value_at}
use Rattle.lnbd_keyed.proofs.KeyedLemmas.{IsAbove_less, value_at_above, value_at_head, value_at_tail}
use Rattle.lnbd_asked.specs.Transcript.{Dealt}
use Rattle.lnbd_plan.specs.declared.grid.Slice.{Slice}
use Rattle.lnbd_board.specs.declared.how.How.{How}
use Rattle.lnbd_board.specs.declared.row.Row.{Row}
use Rattle.lnbd_board.specs.Rows.{busy, is_busy, slice_at}
use Rattle.lnbd_course.specs.Slices.{AreBegun, IsAwaited, IsFinished}

-- Where as many rows have a request under way as there are, each has.

busy_most : (rows : List (ℕ × Row)) → busy rows ≤ length rows
busy_most [] = omega arith
busy_most (x ∷ xs) =
    let more = busy_most xs in
    elim (is_busy x.1.stage) as (λ b. cond b 1 0 + busy xs ≤ length (x ∷ xs)) [ true ↦ omega (arith, more) | false ↦ omega (arith, more) ]

first_busy : (x : ℕ × Row) (xs : List (ℕ × Row)) → busy (x ∷ xs) ≡ length (x ∷ xs) → (is_busy x.1.stage ≡ true) × (busy xs ≡ length xs)
first_busy x xs all = go (is_busy x.1.stage) refl all
  where
    go : (b : Bool) → is_busy x.1.stage ≡ b → cond b 1 0 + busy xs ≡ length (x ∷ xs) → (is_busy x.1.stage ≡ true) × (busy xs ≡ length xs)
    go true is e = (is, omega (arith, e))
    go false is e = let most = busy_most xs in absurd (omega (arith, e, most))

row_same : (one other : Row) → Some one ≡ Some other → one ≡ other
row_same one other e = cc

none_row : (one : Row) → None ≡ Some one → ⊥
none_row one e = cc

pub each_busy : (i : ℕ) (row : Row) (rows : List (ℕ × Row)) → busy rows ≡ length rows → value_at i rows ≡ Some row → is_busy row.stage ≡ true
each_busy i row [] all is = absurd (none_row row is)
each_busy i row (x ∷ xs) all is = elim (cases_eq i x.0) [
  | inl same ↦ ap (λ (r : Row). is_busy r.stage) (sym (row_same x.1 row (sym (value_at_head x.0 x.1 xs) ∙ (ap (λ (n : ℕ). value_at n (x ∷ xs)) (sym same) ∙ is)))) ∙ (first_busy x xs all).0
  | inr other ↦ each_busy i row xs (first_busy x xs all).1 (sym (value_at_tail i x xs other) ∙ is)
]

-- Slices, number by number.

-- the rows are of numbers from this one on
abbrev pub AreFrom : ℕ → List (ℕ × Row) → Type 0
AreFrom at [] = Unit {0}
AreFrom at (x ∷ xs) = at ≤ x.0

above_from : (at : ℕ) (rows : List (ℕ × Row)) → IsAbove at rows → AreFrom (at + 1) rows
above_from at [] above = tt
above_from at (x ∷ xs) above = let a : at < x.0 = above.0 in omega (arith, a)

all_above : (at : ℕ) (x : ℕ × Row) (xs : List (ℕ × Row)) → at < x.0 → IsRising (x ∷ xs) → IsAbove at (x ∷ xs)
all_above at x xs less rising = (less, IsAbove_less at x.0 xs less rising.0)

from_next : (at : ℕ) (x : ℕ × Row) (xs : List (ℕ × Row)) → at ≤ x.0 → at ≢ x.0 → at < x.0
from_next at x xs from other = elim (cases_lt at x.0) [
  | inl less ↦ less
  | inr more ↦ absurd (other (omega (arith, from, more)))
]

below_next : (at n : ℕ) (rows : List (ℕ × Row)) → IsBelow rows (at + suc n) → IsBelow rows (at + 1 + n)
below_next at n rows below = subst (λ (end : ℕ). IsBelow rows end) (omega arith) below

module _ (how : How) (source destination : Dealt) where
  -- how far a slice is, by its row
  abbrev pub IsBegun : Slice → Option Row → Type 0
  IsBegun slice None = IsFinished how slice source destination
  IsBegun slice (Some row) = IsAwaited how slice source destination

  -- those from a number on
  abbrev pub AreEach : ℕ → List Slice → List (ℕ × Row) → Type 0
  AreEach at slices rows = (i : ℕ) → i < length slices → IsBegun (slice_at slices i) (value_at (at + i) rows)

  first_of : (at : ℕ) (s : Slice) (ss : List Slice) (rows : List (ℕ × Row)) → AreEach at (s ∷ ss) rows → IsBegun s (value_at at rows)
  first_of at s ss rows each = subst (λ (n : ℕ). IsBegun s (value_at n rows)) (omega arith) (each 0 (omega arith))

  same_rows : (at : ℕ) (s : Slice) (ss : List Slice) (rows : List (ℕ × Row)) → AreEach at (s ∷ ss) rows → AreEach (at + 1) ss rows
  same_rows at s ss rows each i l = subst (λ (n : ℕ). IsBegun (slice_at ss i) (value_at n rows)) (omega arith) (each (suc i) (omega (arith, l)))

  fewer_rows : (at : ℕ) (s : Slice) (ss : List Slice) (x : ℕ × Row) (xs : List (ℕ × Row)) → at ≡ x.0 → AreEach at (s ∷ ss) (x ∷ xs) → AreEach (at + 1) ss xs
  fewer_rows at s ss x xs same each i l =
      subst (λ (row : Option Row). IsBegun (slice_at ss i) row) (value_at_tail (at + 1 + i) x xs (λ e. omega (arith, e, same))) (same_rows at s ss (x ∷ xs) each i l)

  pub are_begun : (at : ℕ) (slices : List Slice) (rows : List (ℕ × Row)) → AreFrom at rows → IsRising rows → IsBelow rows (at + length slices) → AreEach at slices rows → AreBegun how source destination slices (length rows)
  are_begun at [] [] from rising below each = refl
  are_begun at [] (x ∷ xs) from rising below each = let b : x.0 < at + 0 = below.0 in absurd (omega (arith, from, b))
  are_begun at (s ∷ ss) [] from rising below each = inl (first_of at s ss [] each, are_begun (at + 1) ss [] tt tt tt (same_rows at s ss [] each))
  are_begun at (s ∷ ss) (x ∷ xs) from rising below each = elim (cases_eq at x.0) [
    | inl same ↦ inr (
      subst (λ (row : Option Row). IsBegun s row) (ap (λ (n : ℕ). value_at n (x ∷ xs)) same ∙ value_at_head x.0 x.1 xs) (first_of at s ss (x ∷ xs) each),
      (length xs, (omega arith, are_begun (at + 1) ss xs (above_from at xs (subst (λ (n : ℕ). IsAbove n xs) (sym same) rising.0)) rising.1 (below_next at (length ss) xs below.1) (fewer_rows at s ss x xs same each))),
    )
    | inr other ↦
        let less = from_next at x xs from other in
        inl (
          subst (λ (row : Option Row). IsBegun s row) (value_at_above at at (x ∷ xs) (all_above at x xs less rising) (omega arith)) (first_of at s ss (x ∷ xs) each),
          are_begun (at + 1) ss (x ∷ xs) (omega (arith, less)) rising (below_next at (length ss) (x ∷ xs) below) (same_rows at s ss (x ∷ xs) each),
        )
  ]
