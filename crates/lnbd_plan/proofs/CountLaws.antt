-- How many slices a run has.
use Rattle.std.proofs.Common.{◌≡◌, ℕ, zero, suc, ◌+◌, ◌-◌, ◌/◌, ◌%◌, ◌<◌, ◌≤◌, ◌||◌, Bool, true, false, not, List, [], ◌∷◌, ◌++◌, length, subst, ◌∙◌, ap, refl, inl, inr, arith, cond}
use Rattle.std.proofs.lemmas.List.{length-append}
use Rattle.std.proofs.lemmas.Bool.{eq-eqb, eqb-true}
use Rattle.lnbd_plan.specs.declared.grid.Slice.{Slice}
use Rattle.lnbd_plan.specs.declared.cells.Cells.{Cells}
use Rattle.lnbd_plan.specs.Slices.{slice, unlike, growing, slices_of}
use Rattle.lnbd_plan.specs.Plans.{is_multiple, is_cut, copied, run_slices, window_slices}
use Rattle.lnbd_plan.proofs.SliceLaws.{unlike_same}
use Rattle.lnbd_plan.proofs.CutLaws.{one_slice, slices_some}
use Rattle.lnbd_plan.proofs.GridLaws.{cell_step}

pub cond_count : (c : Bool) (p : ℕ) (z : Bool) (xs : List Slice) → 0 < length xs → length (cond c (slice p 1 z ∷ xs) (growing p z xs)) ≡ cond c (length xs + 1) (length xs)
cond_count c p z [] some = absurd (omega arith)
cond_count true p z (x ∷ xs) some = omega arith
cond_count false p z (x ∷ xs) some = refl

pub cond_least : (c : Bool) (p : ℕ) (z : Bool) (xs : List Slice) → length (cond c (slice p 1 z ∷ xs) (growing p z xs)) ≤ length xs + 1
cond_least true p z xs = omega arith
cond_least false p z [] = omega arith
cond_least false p z (x ∷ xs) = omega arith

-- there are no more slices than positions
pub at_most : (told cut : ℕ → Bool) (p n : ℕ) → length (slices_of told cut p n) ≤ n
unfolding slices_of
at_most told cut p zero = omega arith
at_most told cut p (suc n) =
    let h = cond_least (cut (p + 1) || unlike (told p) (told (p + 1))) p (told p) (slices_of told cut (p + 1) n) in
    let k = at_most told cut (p + 1) n in omega arith

pub not_multiple : (c p : ℕ) → (p % c ≡ 0 → ⊥) → is_multiple c p ≡ false
not_multiple c p h = elim (is_multiple c p) as (λ b. is_multiple c p ≡ b → b ≡ false) [ true ↦ λ e. absurd (h (eqb-true (p % c) 0 e)) | false ↦ λ e. refl ] refl

pub or_false : (a b : Bool) → b ≡ false → a || b ≡ a
or_false true b e = refl
or_false false b e = e

pub counted_step : (c s l t q : ℕ) → 0 < c → l + (s + 1) / c ≡ q + 1 → t ≡ cond (is_multiple c (s + 1)) (l + 1) l → t + s / c ≡ q + 1
counted_step c s l t q some more total =
    elim (cell_step c s some) [
      | inl h ↦
          let test : is_multiple c (s + 1) ≡ false = not_multiple c (s + 1) h.0 in
          let same = h.1 in
          let is : t ≡ l = total ∙ ap (λ (b : Bool). cond b (l + 1) l) test in
          omega arith
      | inr h ↦
          let test : is_multiple c (s + 1) ≡ true = eq-eqb ((s + 1) % c) 0 h.0 in
          let next = h.1 in
          let is : t ≡ l + 1 = total ∙ ap (λ (b : Bool). cond b (l + 1) l) test in
          omega arith
    ]

pub div_up : (c s n : ℕ) → 0 < c → s / c ≤ (s + n) / c
div_up c s zero some = let e : s ≡ s + zero = omega arith in subst (λ (m : ℕ). s / c ≤ m / c) e (omega arith)
div_up c s (suc n) some =
    let k = div_up c s n some in
    let at : s + n + 1 ≡ s + suc n = omega arith in
    subst (λ (m : ℕ). s / c ≤ m / c) at (elim (cell_step c (s + n) some) [ inl h ↦ let e = h.1 in omega arith | inr h ↦ let e = h.1 in omega arith ])

-- how many slices a run has: one, and one more for each multiple in it
pub counted : (c : ℕ) (z : Bool) (s n : ℕ) → 0 < c → length (slices_of (λ _. z) (is_multiple c) s (suc n)) + s / c ≡ (s + n) / c + 1
unfolding slices_of
counted c z s zero some =
    let e : length (slices_of (λ _. z) (is_multiple c) s (suc zero)) ≡ 1 = ap (λ (l : List Slice). length l) (one_slice (is_multiple c) s z) in
    let at : s ≡ s + zero = omega arith in
    subst (λ (m : ℕ). length (slices_of (λ _. z) (is_multiple c) s (suc zero)) + s / c ≡ m / c + 1) at (omega arith)
counted c z s (suc n) some =
    let others = counted c z (s + 1) n some in
    let at : s + 1 + n ≡ s + suc n = omega arith in
    let more : length (slices_of (λ _. z) (is_multiple c) (s + 1) (suc n)) + (s + 1) / c ≡ (s + suc n) / c + 1 =
    subst (λ (m : ℕ). length (slices_of (λ _. z) (is_multiple c) (s + 1) (suc n)) + (s + 1) / c ≡ m / c + 1) at others in
    let is = cond_count (is_multiple c (s + 1) || unlike z z) s z (slices_of (λ _. z) (is_multiple c) (s + 1) (suc n)) (slices_some (λ _. z) (is_multiple c) (s + 1) n) in
    let kind : is_multiple c (s + 1) || unlike z z ≡ is_multiple c (s + 1) = or_false (is_multiple c (s + 1)) (unlike z z) (unlike_same z z refl) in
    let total : length (slices_of (λ _. z) (is_multiple c) s (suc (suc n)))
    ≡ cond (is_multiple c (s + 1)) (length (slices_of (λ _. z) (is_multiple c) (s + 1) (suc n)) + 1) (length (slices_of (λ _. z) (is_multiple c) (s + 1) (suc n))) =
    is ∙ ap (λ (b : Bool). cond b (length (slices_of (λ _. z) (is_multiple c) (s + 1) (suc n)) + 1) (length (slices_of (λ _. z) (is_multiple c) (s + 1) (suc n)))) kind in
    counted_step c s (length (slices_of (λ _. z) (is_multiple c) (s + 1) (suc n))) (length (slices_of (λ _. z) (is_multiple c) s (suc (suc n)))) ((s + suc n) / c) some more total

pub count_of_run : (cells : Cells) (run : Slice) (c k : ℕ) → c ≡ cond run.zero cells.zero_cell cells.cell → 0 < c → 0 < run.length
    → k ≡ (run.start + (run.length - 1)) / c - run.start / c + 1 → k ≡ length (run_slices cells run)
count_of_run cells run c k is some more size =
    let at : suc (run.length - 1) ≡ run.length = omega arith in
    let n : length (slices_of (λ _. run.zero) (is_multiple c) run.start run.length) + run.start / c ≡ (run.start + (run.length - 1)) / c + 1 =
    subst (λ (m : ℕ). length (slices_of (λ _. run.zero) (is_multiple c) run.start m) + run.start / c ≡ (run.start + (run.length - 1)) / c + 1) at
    (counted c run.zero run.start (run.length - 1) some) in
    let up : run.start / c ≤ (run.start + (run.length - 1)) / c = div_up c run.start (run.length - 1) some in
    subst (λ (b : ℕ). k ≡ length (slices_of (λ _. run.zero) (is_multiple b) run.start run.length)) is (omega arith)

pub copied_at_most : (zeros : Bool) (l : List Slice) → length (copied zeros l) ≤ length l
copied_at_most zeros [] = omega arith
copied_at_most zeros (x ∷ l) =
    let k = copied_at_most zeros l in
    elim (zeros || not x.zero) as (λ b. length (cond b (x ∷ copied zeros l) (copied zeros l)) ≤ length (x ∷ l)) [ true ↦ omega arith | false ↦ omega arith ]

pub window_at_most : (cells : Cells) (told : ℕ → Bool) (s n : ℕ) → length (window_slices cells told s n) ≤ n
window_at_most cells told s n =
    let a = copied_at_most cells.zeros (slices_of told (is_cut cells told) s n) in
    let b = at_most told (is_cut cells told) s n in omega arith

pub counted_on : (n k l : ℕ) (w add w2 : List Slice) → n + length w ≡ l → k ≡ length add → w ≡ add ++ w2 → n + k + length w2 ≡ l
counted_on n k l w add w2 so_far more split = omega (arith, ap (λ (m : List Slice). length m) split, length-append add w2)

pub counted_all : (cells : Cells) (told : ℕ → Bool) (s n m l : ℕ) → n ≡ 0 → m + length (window_slices cells told s n) ≡ l → m ≡ l
counted_all cells told s n m l e h = let k = window_at_most cells told s n in omega arith

pub counted_room : (n k l : ℕ) (w add w2 : List Slice) → n + length w ≡ l → k ≡ length add → w ≡ add ++ w2 → n + k ≤ l
counted_room n k l w add w2 so_far more split = omega (arith, ap (λ (m : List Slice). length m) split, length-append add w2)
