-- Holes of the source that are passed over: whole slices of zeros.
use Rattle.std.proofs.Common.{◌≡◌, ℕ, ◌+◌, ◌-◌, ◌*◌, ◌/◌, ◌%◌, ◌<◌, ◌≤◌, inl, inr, true, List, ◌++◌, length, take, drop, get_or, replicate, Option, refl, ap, sym, subst, ◌∙◌, arith, append_assoc}
use Rattle.std.proofs.Common.{length-drop, length-take}
use Rattle.std.proofs.lemmas.Bool.{ne_eqb}
use Rattle.std.proofs.lemmas.List.{get_or-drop, get_or-take}
use Rattle.std.proofs.lemmas.Nat.{div-add-mod', div_below, le-div, mul-le, row_fits}
use Rattle.std.proofs.Math.Nat.{mul-add-mod_self_right}
use Rattle.std.proofs.Math.Seq.{take-add}
use Rattle.lnbd_plan.proofs.BlockLaws.{zeros_from}
use Rattle.lnbd_plan.proofs.GridLaws.{less_or_not}
use Rattle.lnbd_store.specs.Effects.{AreZeros}
use Rattle.lnbd_store.specs.Shelf.{Shelf}
use Rattle.lnbd_touched.specs.Both.{Both}
use Rattle.lnbd_touched.specs.Touches.{Touches}
use Rattle.lnbd_touched.proofs.BothLemmas.{both_first, both_none, both_then}
use Rattle.lnbd_copyfile.specs.Steps.{AreCounted, HasZeros, Moved}
use Rattle.lnbd_copyfile.specs.Zeros.{begin_of, in_zero_piece, slice_of}
use Rattle.lnbd_copyfile.proofs.CountLemmas.{all_told, block_told}
use Rattle.lnbd_copyfile.proofs.FillLemmas.{moved_same, zeros_apart}
use Rattle.lnbd_copyfile.proofs.PieceLemmas.{front_zero}

-- a multiple at or before a position is not behind the beginning of its slice
begins_behind : (cell at q : ℕ) → 0 < cell → at % cell ≡ 0 → at ≤ q → at ≤ begin_of cell q
begins_behind cell at q some begins from =
    let whole : at / cell * cell + at % cell ≡ at = div-add-mod' at cell in
    let low : at / cell ≤ q / cell = le-div (at / cell) q cell some (omega (arith, whole, begins, from)) in
    let least = mul-le (at / cell) cell (q / cell) cell low (omega arith) in
    omega (arith, whole, begins, least)

-- a multiple behind a position is not before the end of its slice
ends_before : (cell end q : ℕ) → 0 < cell → end % cell ≡ 0 → q < end → begin_of cell q + cell ≤ end
ends_before cell end q some ends below =
    let whole : end / cell * cell + end % cell ≡ end = div-add-mod' end cell in
    let row : q / cell < end / cell = div_below q cell (end / cell) some (omega (arith, whole, ends, below)) in
    let fits = row_fits (q / cell) cell (end / cell) cell row (omega arith) in
    omega (arith, whole, ends, fits)

-- whole slices behind whole slices
pub slices_end : (cell size at n : ℕ) → at % cell ≡ 0 → (n < size - at → n % cell ≡ 0) → at + n < size → (at + n) % cell ≡ 0
slices_end cell size at n begins whole more =
    let here : at / cell * cell + at % cell ≡ at = div-add-mod' at cell in
    let e : at + n ≡ at / cell * cell + n = omega (arith, here, begins) in
    ap (λ (k : ℕ). k % cell) e ∙ mul-add-mod_self_right (at / cell) cell n ∙ whole (omega (arith, more))

-- where whole slices are zeros, each of their positions lies in a zero piece
hole_tells : (cell block size at n : ℕ) (x : List ℕ) → 0 < cell → (block ≡ 0 → ⊥) → at % cell ≡ 0 → (at + n < size → (at + n) % cell ≡ 0) → length x ≡ size → AreZeros at n x
    → (q : ℕ) → at ≤ q → q < at + n → in_zero_piece cell block x q ≡ true
hole_tells cell block size at n x some blocks begins ends long zeros q from below =
    let b = begin_of cell q in
    let low = begins_behind cell at q some begins from in
    sym (block_told block b (slice_of cell q x) q (ne_eqb block 0 blocks)) ∙ zeros_from block (q / block) b (slice_of cell q x) (λ i within same. each i within low)
  where
    each : (i : ℕ) → i < length (slice_of cell q x) → at ≤ begin_of cell q → get_or (slice_of cell q x) i 0 ≡ 0
    each i within low =
        let b = begin_of cell q in
        let t = length-take cell (drop b x) in
        let d = length-drop b x in
        let low_i : i < cell = omega (arith, t, within) in
        let there : b + i < length x = omega (arith, t, d, within) in
        let inside : b + i < at + n = elim (less_or_not (at + n) size) [
          | inl l ↦ let e = ends_before cell (at + n) q some (ends l) below in omega (arith, e, low_i)
          | inr r ↦ omega (arith, r, there, long)
        ] in
        get_or-take cell (drop b x) i 0 low_i ∙ get_or-drop b x i 0 ∙ zeros.are (b + i) (omega (arith, low)) inside there

module _ (cell block size at n : ℕ) where
  -- nothing is written for a hole
  moved_zeros : (x y x2 y2 : List ℕ) → 0 < cell → (block ≡ 0 → ⊥) → at % cell ≡ 0 → at + n ≤ size → (at + n < size → (at + n) % cell ≡ 0)
      → HasZeros at n x x2 × (y2 ≡ y) → Moved cell block size at (at + n) 0 x y x2 y2
  moved_zeros x y x2 y2 some blocks begins fits ends told =
      let zeros = told.0.are in
      record {
        same = told.0.same;
        on = λ long is.
            let rest = size - (at + n) in
            let d = length-drop at x in
            let each = λ (i : ℕ) (below : i < n). get_or-drop at x i 0 ∙ zeros.are (at + i) (omega arith) (omega (arith, below)) (omega (arith, below, fits, long)) in
            let run : take n (drop at x) ≡ replicate n 0 = front_zero n (drop at x) (omega (arith, d, long, fits)) each in
            let left : size - at ≡ n + rest = omega (arith, fits) in
            told.1 ∙ is ∙ ap (λ (k : ℕ). take at x ++ replicate {A = ℕ} k 0) left ∙ ap (λ (xs : List ℕ). take at x ++ xs) (zeros_apart n rest ∙ ap (λ (xs : List ℕ). xs ++ replicate rest 0) (sym run))
            ∙ sym (append_assoc (take at x) (take n (drop at x)) (replicate rest 0)) ∙ ap (λ (xs : List ℕ). xs ++ replicate rest 0) (sym (take-add at n x));
        count = λ long.
            let e : n ≡ at + n - at = omega arith in
            subst (λ (k : ℕ). AreCounted (in_zero_piece cell block x) 0 at k) e
            (all_told (in_zero_piece cell block x) at n (λ q from below. hole_tells cell block size at n x some blocks begins ends long zeros q from below));
      }

  pub hole_moves : (file to : ℕ) (a b : Option Shelf) → 0 < cell → (block ≡ 0 → ⊥) → at % cell ≡ 0 → at + n ≤ size → (at + n < size → (at + n) % cell ≡ 0)
      → Touches file (HasZeros at n) a b → Both file to (Moved cell block size at (at + n) 0) a b
  hole_moves file to a b some blocks begins fits ends zeros =
      both_then file to (λ x y x2 y2. HasZeros at n x x2 × (y2 ≡ y)) (λ x y x2 y2. (x2 ≡ x) × (y2 ≡ y)) (Moved cell block size at (at + n) 0) a b b
      (λ x y x2 y2 x3 y3 p q. moved_same cell block size at (at + n) 0 x y x2 y2 x3 y3 (moved_zeros x y x2 y2 some blocks begins fits ends p) q.0 q.1)
      (both_first file to (HasZeros at n) a b zeros) (both_none file to (λ x y x2 y2. (x2 ≡ x) × (y2 ≡ y)) b (λ x y. (refl, refl)))

-- of fewer positions it is so too
pub zeros_fewer : (at n few : ℕ) (x : List ℕ) → few ≤ n → AreZeros at n x → HasZeros at few x x
zeros_fewer at n few x less zeros = record { same = refl; are = record { are = λ p from below within. zeros.are p from (omega (arith, below, less)) within } }
