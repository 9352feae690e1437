-- How many positions of a range are told zero, slice by slice and piece by piece.
use Rattle.std.proofs.Common.{◌≡◌, ℕ, zero, suc, ◌+◌, ◌-◌, ◌*◌, ◌/◌, ◌%◌, ◌<◌, ◌≤◌, ◌==◌, ◌&&◌, inl, inr, Bool, true, false, not, cond, min}
use Rattle.std.proofs.Common.{List, [], ◌∷◌, length, take, drop, refl, ap, sym, subst, ◌∙◌, arith, length-drop}
use Rattle.std.proofs.lemmas.Bool.{ne_eqb}
use Rattle.std.proofs.lemmas.List.{take_all}
use Rattle.std.proofs.lemmas.Nat.{div-add-mod'}
use Rattle.lnbd_plan.specs.declared.grid.Slice.{Slice}
use Rattle.lnbd_plan.specs.Blocks.{in_zero_block}
use Rattle.lnbd_plan.specs.Laws.{AreWhole, LieBetween}
use Rattle.lnbd_plan.specs.Slices.{slices_of}
use Rattle.lnbd_plan.proofs.GridLaws.{end_begins, less_or_not, same_cell}
use Rattle.lnbd_plan.proofs.LongestLaws.{longest}
use Rattle.lnbd_copyfile.specs.Calls.{rest_of}
use Rattle.lnbd_copyfile.specs.Steps.{AreCounted, IsSlice, data_length}
use Rattle.lnbd_copyfile.specs.Zeros.{begin_of, count_of, in_zero_piece, is_zero_at, slice_of}
use Rattle.lnbd_copyfile.proofs.PieceLemmas.{between_order}

count_same : (f g : ℕ → Bool) (p n : ℕ) → ((q : ℕ) → p ≤ q → q < p + n → f q ≡ g q) → count_of f p n ≡ count_of g p n
count_same f g p zero same = refl
count_same f g p (suc n) same =
    let here : f p ≡ g p = same p (omega arith) (omega arith) in
    let rest = count_same f g (p + 1) n (λ q from below. same q (omega (arith, from)) (omega (arith, below))) in
    ap (λ (b : Bool). cond b 1 0 + count_of f (p + 1) n) here ∙ ap (λ (k : ℕ). cond (g p) 1 0 + k) rest

count_alike : (told : Bool) (p n : ℕ) → cond told 0 n + count_of (λ q. told) p n ≡ n
count_alike true p zero = refl
count_alike false p zero = refl
count_alike true p (suc n) = let rest = count_alike true (p + 1) n in omega (arith, rest)
count_alike false p (suc n) = let rest = count_alike false (p + 1) n in omega (arith, rest)

pub count_both : (f : ℕ → Bool) (p a b : ℕ) → count_of f p (a + b) ≡ count_of f p a + count_of f (p + a) b
count_both f p zero b =
    let e : zero + b ≡ b = omega arith in
    let k : p ≡ p + zero = omega arith in
    let all = ap (count_of f p) e ∙ ap (λ (q : ℕ). count_of f q b) k in
    omega (arith, all)
count_both f p (suc a) b =
    let e : suc a + b ≡ suc (a + b) = omega arith in
    let k : p + 1 + a ≡ p + suc a = omega arith in
    let all = ap (count_of f p) e in
    let rest = count_both f (p + 1) a b in
    let last = ap (λ (q : ℕ). count_of f q b) k in
    omega (arith, all, rest, last)

-- where none is told zero, all is written
pub none_told : (f : ℕ → Bool) (written p n : ℕ) → ((q : ℕ) → f q ≡ false) → AreCounted f written p n → written ≡ n
none_told f written p n none are =
    let k = count_same f (λ q. false) p n (λ q from below. none q) in
    let z = count_alike false p n in
    omega (arith, are, k, z)

-- where all are, nothing is
pub all_told : (f : ℕ → Bool) (p n : ℕ) → ((q : ℕ) → p ≤ q → q < p + n → f q ≡ true) → AreCounted f 0 p n
all_told f p n all =
    let k = count_same f (λ q. true) p n all in
    let z = count_alike true p n in
    omega (arith, k, z)

pub counted_few : (f : ℕ → Bool) (written p n : ℕ) → AreCounted f written p n → written ≤ n
counted_few f written p n are = omega (arith, are)

pub counted_as : (f g : ℕ → Bool) (written p n : ℕ) → ((q : ℕ) → p ≤ q → q < p + n → f q ≡ g q) → AreCounted f written p n → AreCounted g written p n
counted_as f g written p n same are = let k = count_same f g p n same in omega (arith, are, k)

pub counted_then : (f : ℕ → Bool) (w v a b c : ℕ) → a ≤ b → b ≤ c → AreCounted f w a (b - a) → AreCounted f v b (c - b) → AreCounted f (w + v) a (c - a)
counted_then f w v a b c low high one two =
    let e : c - a ≡ b - a + (c - b) = omega (arith, low, high) in
    let k : a + (b - a) ≡ b = omega (arith, low) in
    let split = ap (count_of f a) e ∙ count_both f a (b - a) (c - b) in
    let more = ap (λ (q : ℕ). count_of f q (c - b)) k in
    omega (arith, one, two, split, more, e)

-- The pieces of bytes.

counted_pieces : (told cut : ℕ → Bool) (at end n : ℕ) (pieces : List Slice) → end ≡ at + n → LieBetween at end pieces → AreWhole told cut pieces → AreCounted told (data_length pieces) at n
counted_pieces told cut at end n [] is between whole =
    let none : n ≡ 0 = omega (arith, is, between) in
    subst (λ (k : ℕ). AreCounted told 0 at k) (sym none) refl
counted_pieces told cut at end n (piece ∷ pieces) is between whole =
    let l = piece.length in
    let start = between.0 in
    let order = between_order (at + l) end pieces between.2 in
    let rest = counted_pieces told cut (at + l) end (n - l) pieces (omega (arith, is, order)) between.2 whole.1 in
    let e : n ≡ l + (n - l) = omega (arith, is, order) in
    let split = ap (count_of told at) e ∙ count_both told at l (n - l) in
    let alike = count_same told (λ q. piece.zero) at l (λ q from below. whole.0.alike q (omega (arith, start, from)) (omega (arith, start, below))) in
    let here = count_alike piece.zero at l in
    omega (arith, rest, split, alike, here, e)

pub block_told : (block start : ℕ) (bytes : List ℕ) (q : ℕ) → (block == 0) ≡ false → in_zero_block block start bytes q ≡ is_zero_at block start bytes q
block_told block start bytes q some = ap (λ (b : Bool). not b && in_zero_block block start bytes q) (sym some)

no_block : (block start : ℕ) (bytes : List ℕ) (q : ℕ) → block ≡ 0 → is_zero_at block start bytes q ≡ false
no_block block start bytes q none = ap (λ (b : ℕ). not (b == 0) && in_zero_block block start bytes q) none

pub pieces_counted : (block at : ℕ) (bytes : List ℕ) → (block ≡ 0 → ⊥)
    → AreCounted (is_zero_at block at bytes) (data_length (slices_of (in_zero_block block at bytes) (λ _. false) at (length bytes))) at (length bytes)
pieces_counted block at bytes some =
    let told = in_zero_block block at bytes in
    let l = longest told (λ _. false) at (length bytes) in
    counted_as told (is_zero_at block at bytes) _ at (length bytes) (λ q from below. block_told block at bytes q (ne_eqb block 0 some))
    (counted_pieces told (λ _. false) at (at + length bytes) (length bytes) (slices_of told (λ _. false) at (length bytes)) refl l.between l.whole)

pub one_counted : (block at : ℕ) (bytes : List ℕ) → block ≡ 0 → AreCounted (is_zero_at block at bytes) (data_length (record { start = at; length = length bytes; zero = false } ∷ [])) at (length bytes)
one_counted block at bytes none =
    let k = count_same (is_zero_at block at bytes) (λ q. false) at (length bytes) (λ q from below. no_block block at bytes q none) in
    let z = count_alike false at (length bytes) in
    omega (arith, k, z)

pub all_written : (block start : ℕ) (bytes : List ℕ) (written p n : ℕ) → block ≡ 0 → AreCounted (is_zero_at block start bytes) written p n → written ≡ n
all_written block start bytes written p n none are = none_told (is_zero_at block start bytes) written p n (λ q. no_block block start bytes q none) are

-- Slices.

within_cell : (cell offset at : ℕ) → offset % cell ≡ 0 → at < cell → (offset + at) % cell ≡ at
within_cell cell offset at begins below =
    let same : (offset + at) / cell ≡ offset / cell = same_cell cell offset (offset + at) (omega (arith, below)) (omega arith) (omega (arith, begins, below)) in
    let whole : offset / cell * cell + offset % cell ≡ offset = div-add-mod' offset cell in
    let here : offset / cell * cell + (offset + at) % cell ≡ offset + at = subst (λ (k : ℕ). k * cell + (offset + at) % cell ≡ offset + at) same (div-add-mod' (offset + at) cell) in
    omega (arith, whole, here, begins)

-- a read that goes on in a slice, of which so many bytes came, asks for the rest of it
pub asks_more : (cell size offset n at room : ℕ) → IsSlice cell size offset n → room ≡ n → at < room → room - at ≡ rest_of cell size (offset + at)
asks_more cell size offset n at room slice is more =
    let long = slice.length_ in
    let m = within_cell cell offset at slice.begins (omega (arith, long, is, more)) in
    omega (arith, long, m, is, more)

pub slice_few : (cell size offset n : ℕ) → IsSlice cell size offset n → n ≤ cell
slice_few cell size offset n slice = let long = slice.length_ in omega (arith, long)

-- the slice that begins where so many bytes are left, and the next one

pub zero_begins : (cell : ℕ) → 0 % cell ≡ 0
zero_begins cell = let whole : 0 / cell * cell + 0 % cell ≡ 0 = div-add-mod' 0 cell in omega (arith, whole)

least_cell : (cell at : ℕ) → at % cell ≡ 0 → 0 < at → cell ≤ at
least_cell cell at begins some = elim (less_or_not at cell) [
  | inl below ↦
      let e : 0 + at ≡ at = omega arith in
      let m : at % cell ≡ at = subst (λ (k : ℕ). k % cell ≡ at) e (within_cell cell 0 at (zero_begins cell) below) in
      absurd (omega (arith, m, begins, some))
  | inr above ↦ above
]

pub slice_begins : (cell size at room : ℕ) → at % cell ≡ 0 → at < size → room ≡ min size cell → IsSlice cell size at (min (size - at) room)
slice_begins cell size at room begins more is = record { begins = begins; length_ = long }
  where
    long : min (size - at) room ≡ min cell (size - at)
    long = elim (less_or_not 0 at) [
      | inl some ↦ let least = least_cell cell at begins some in omega (arith, least, more, is)
      | inr none ↦ omega (arith, none, more, is)
    ]

pub next_begins : (cell size at n : ℕ) → 0 < cell → IsSlice cell size at n → at + n < size → (at + n) % cell ≡ 0
next_begins cell size at n some slice more =
    let long = slice.length_ in
    let begins = slice.begins in
    let e : at + (cell - at % cell) ≡ at + n = omega (arith, long, begins, more) in
    subst (λ (k : ℕ). k % cell ≡ 0) e (end_begins cell at some)

take_front : (cell n : ℕ) (xs : List ℕ) → n ≡ min cell (length xs) → take cell xs ≡ take n xs
take_front cell n xs is = elim (less_or_not cell (length xs)) [
  | inl below ↦ ap (λ (k : ℕ). take k xs) (omega (arith, is, below))
  | inr above ↦ take_all cell xs above ∙ sym (take_all n xs (omega (arith, is, above)))
]

-- what a slice's bytes tell of its positions, so the file does
pub slice_tells : (cell block size at n : ℕ) (bytes x : List ℕ) → 0 < cell → IsSlice cell size at n → length x ≡ size → bytes ≡ take n (drop at x)
    → (q : ℕ) → at ≤ q → q < at + n → is_zero_at block at bytes q ≡ in_zero_piece cell block x q
slice_tells cell block size at n bytes x some slice long are q from below =
    let begins = slice.begins in
    let few = slice_few cell size at n slice in
    let same : q / cell ≡ at / cell = same_cell cell at q some from (omega (arith, begins, below, few)) in
    let whole : at / cell * cell + at % cell ≡ at = div-add-mod' at cell in
    let begin : at ≡ begin_of cell q = let e = ap (λ (k : ℕ). k * cell) same in omega (arith, whole, begins, e) in
    let left : n ≡ min cell (length (drop at x)) = let k = length-drop at x in let l = slice.length_ in omega (arith, k, l, long) in
    let own : bytes ≡ slice_of cell q x = are ∙ sym (take_front cell n (drop at x) left) ∙ ap (λ (k : ℕ). take cell (drop k x)) begin in
    ap (λ (bs : List ℕ). is_zero_at block at bs q) own ∙ ap (λ (k : ℕ). is_zero_at block k (slice_of cell q x) q) begin

pub slice_counted : (cell block size at n written : ℕ) (bytes x : List ℕ) → 0 < cell → IsSlice cell size at n → length x ≡ size → bytes ≡ take n (drop at x)
    → AreCounted (is_zero_at block at bytes) written at n → AreCounted (in_zero_piece cell block x) written at n
slice_counted cell block size at n written bytes x some slice long are counted =
    counted_as (is_zero_at block at bytes) (in_zero_piece cell block x) written at n (λ q from below. slice_tells cell block size at n bytes x some slice long are q from below) counted
