-- The pieces of bytes, and zeros among them.
use Rattle.std.proofs.Common.{◌≡◌, ℕ, ◌+◌, ◌-◌, ◌/◌, ◌<◌, ◌≤◌, Bool, true, false, cond, List, []}
use Rattle.std.proofs.Common.{◌∷◌, length, take, drop, get_or, replicate, refl, ap, sym, subst, ◌∙◌, arith, length-take, length-drop}
use Rattle.std.proofs.lemmas.Grind.{common_steps, same_number_lists}
use Rattle.std.proofs.lemmas.List.{drop-drop, drop_all, drop_more, get_or-replicate, length-replicate, nil_from_length}
use Rattle.lnbd_plan.specs.declared.grid.Slice.{Slice}
use Rattle.lnbd_plan.specs.Blocks.{in_zero_block}
use Rattle.lnbd_plan.specs.Laws.{LieBetween, AreWhole}
use Rattle.lnbd_plan.specs.Slices.{slices_of}
use Rattle.lnbd_plan.proofs.BlockLaws.{zeros_mean}
use Rattle.lnbd_plan.proofs.LongestLaws.{longest}
use Rattle.lnbd_copyfile.specs.Steps.{ArePieces, data_length}

pub between_order : (start end : ℕ) (pieces : List Slice) → LieBetween start end pieces → start ≤ end
between_order start end [] e = omega (arith, e)
between_order start end (piece ∷ pieces) between = let l = between_order (start + piece.length) end pieces between.2 in omega (arith, l)

pub front_zero : (n : ℕ) (bytes : List ℕ) → n ≤ length bytes → ((i : ℕ) → i < n → get_or bytes i 0 ≡ 0) → take n bytes ≡ replicate n 0
front_zero n bytes fits zero =
    let size : length (take n bytes) ≡ n = let k = length-take n bytes in omega (arith, k, fits) in
    same_number_lists (take n bytes) (replicate n 0) (size ∙ sym (length-replicate {A = ℕ} n 0)) (λ k below. here k (omega (arith, below, size)))
  where
    here : (k : ℕ) → k < n → get_or (take n bytes) k 0 ≡ get_or (replicate n 0) k 0
    here k l = let e : get_or (take n bytes) k 0 ≡ get_or bytes k 0 = grind (arith, common_steps) in e ∙ zero k l ∙ sym (get_or-replicate n k 0 0 l)

behind : (n i : ℕ) (bytes : List ℕ) → get_or (drop n bytes) i 0 ≡ get_or bytes (n + i) 0
behind n i bytes = grind (arith, common_steps)

pieces_lie : (told cut : ℕ → Bool) (at end : ℕ) (bytes : List ℕ) (pieces : List Slice) → end ≡ at + length bytes → ((i : ℕ) → i < length bytes → told (at + i) ≡ true → get_or bytes i 0 ≡ 0)
    → LieBetween at end pieces → AreWhole told cut pieces → ArePieces at bytes pieces
pieces_lie told cut at end bytes [] e zero between whole = nil_from_length bytes (omega (arith, e, between))
pieces_lie told cut at end bytes (piece ∷ pieces) e zero between whole =
    let n = piece.length in
    let order = between_order (at + n) end pieces between.2 in
    let fits : n ≤ length bytes = omega (arith, order, e) in
    let size = length-drop n bytes in
    let rest : end ≡ at + n + length (drop n bytes) = omega (arith, e, size, fits) in (
      between.0,
      fits,
      λ is. front_zero n bytes fits (λ i l. zero i (omega (arith, l, fits)) (whole.0.alike (at + i) (let s = between.0 in omega (arith, s)) (let s = between.0 in omega (arith, s, l)) ∙ is)),
      pieces_lie told cut (at + n) end (drop n bytes) pieces rest
          (λ i l is. let e : at + n + i ≡ at + (n + i) = omega arith in behind n i bytes ∙ zero (n + i) (omega (arith, l, size)) (subst (λ (p : ℕ). told p ≡ true) e is)) between.2 whole.1,
    )

pub pieces_are : (block at : ℕ) (bytes : List ℕ) → ArePieces at bytes (slices_of (in_zero_block block at bytes) (λ _. false) at (length bytes))
pieces_are block at bytes =
    let l = longest (in_zero_block block at bytes) (λ _. false) at (length bytes) in
    pieces_lie (in_zero_block block at bytes) (λ _. false) at (at + length bytes) bytes (slices_of (in_zero_block block at bytes) (λ _. false) at (length bytes)) refl
    (λ i below is. zeros_mean block ((at + i) / block) at bytes is i below refl) l.between l.whole

pub one_piece : (at : ℕ) (bytes : List ℕ) → ArePieces at bytes (record { start = at; length = length bytes; zero = false } ∷ [])
one_piece at bytes = (refl, omega arith, λ is. absurd (cc is), nil_from_length (drop (length bytes) bytes) (let k = length-drop (length bytes) bytes in omega (arith, k)))

cond_few : (b : Bool) (n : ℕ) → cond b 0 n ≤ n
cond_few true n = omega arith
cond_few false n = omega arith

-- The piece that is next.

pub next_piece : (at : ℕ) (bytes : List ℕ) (pieces : List Slice) (i : ℕ) (d : Slice) → i < length pieces
    → ArePieces at bytes (drop i pieces) → ArePieces at bytes (get_or pieces i d ∷ drop (i + 1) pieces)
next_piece at bytes pieces i d below are = subst (λ (ps : List Slice). ArePieces at bytes ps) (drop_more pieces i d below) are

pub next_data : (pieces : List Slice) (i : ℕ) (d : Slice) → i < length pieces
    → data_length (drop i pieces) ≡ cond (get_or pieces i d).zero 0 (get_or pieces i d).length + data_length (drop (i + 1) pieces)
next_data pieces i d below = ap (λ (ps : List Slice). data_length ps) (drop_more pieces i d below)

pub next_fits : (offset at : ℕ) (bytes : List ℕ) (pieces : List Slice) (i : ℕ) (d : Slice) → i < length pieces
    → at ≤ length bytes → ArePieces offset (drop at bytes) (drop i pieces) → at + (get_or pieces i d).length ≤ length bytes
next_fits offset at bytes pieces i d below within are =
    let next = next_piece offset (drop at bytes) pieces i d below are in
    let size = length-drop at bytes in
    let fits = next.1 in
    omega (arith, fits, size, within)

pub next_left : (offset at : ℕ) (bytes : List ℕ) (pieces : List Slice) (i : ℕ) (d : Slice) → i < length pieces → ArePieces (offset + at) (drop at bytes) (drop i pieces)
    → ArePieces (offset + (at + (get_or pieces i d).length)) (drop (at + (get_or pieces i d).length) bytes) (drop (i + 1) pieces)
next_left offset at bytes pieces i d below are =
    let n = (get_or pieces i d).length in
    let next = next_piece (offset + at) (drop at bytes) pieces i d below are in
    let place : offset + at + n ≡ offset + (at + n) = omega arith in
    let rest : drop n (drop at bytes) ≡ drop (at + n) bytes = drop-drop n at bytes ∙ ap (λ (k : ℕ). drop k bytes) (omega arith) in
    subst (λ (k : ℕ). ArePieces k (drop (at + n) bytes) (drop (i + 1) pieces)) place (subst (λ (bs : List ℕ). ArePieces (offset + at + n) bs (drop (i + 1) pieces)) rest next.3)

pub part_few : (at n cell : ℕ) (bytes : List ℕ) → length bytes ≤ cell → length (take n (drop at bytes)) ≤ cell
part_few at n cell bytes few = let k = length-take n (drop at bytes) in let m = length-drop at bytes in omega (arith, k, m, few)

pub rest_few : (at cell : ℕ) (bytes : List ℕ) → length bytes ≤ cell → length (drop at bytes) ≤ cell
rest_few at cell bytes few = let m = length-drop at bytes in omega (arith, m, few)

part_size : (at n : ℕ) (bytes : List ℕ) → at + n ≤ length bytes → length (take (at + n - at) (drop at bytes)) ≡ n
part_size at n bytes fits = let k = length-take (at + n - at) (drop at bytes) in let m = length-drop at bytes in omega (arith, k, m, fits)

-- how many bytes are written then
pub next_count : (at written count total : ℕ) (bytes : List ℕ) (pieces : List Slice) (i : ℕ) (d : Slice)
    → i < length pieces → at + (get_or pieces i d).length ≤ length bytes → written + data_length (drop i pieces) ≡ total
    → count ≡ cond (get_or pieces i d).zero 0 (length (take (at + (get_or pieces i d).length - at) (drop at bytes))) → written + count + data_length (drop (i + 1) pieces) ≡ total
next_count at written count total bytes pieces i d below fits sum is =
    let n = (get_or pieces i d).length in
    let size = part_size at n bytes fits in
    let own : count ≡ cond (get_or pieces i d).zero 0 n = is ∙ ap (λ (k : ℕ). cond (get_or pieces i d).zero 0 k) size in
    let next = next_data pieces i d below in
    omega (arith, own, next, sum)

pub next_few : (at count : ℕ) (bytes : List ℕ) (pieces : List Slice) (i : ℕ) (d : Slice) → at + (get_or pieces i d).length ≤ length bytes
    → count ≡ cond (get_or pieces i d).zero 0 (length (take (at + (get_or pieces i d).length - at) (drop at bytes))) → count ≤ (get_or pieces i d).length
next_few at count bytes pieces i d fits is =
    let n = (get_or pieces i d).length in
    let size = part_size at n bytes fits in
    let own : count ≡ cond (get_or pieces i d).zero 0 n = is ∙ ap (λ (k : ℕ). cond (get_or pieces i d).zero 0 k) size in
    let few = cond_few (get_or pieces i d).zero n in
    omega (arith, own, few)

-- No piece is left.

pub none_left : (offset at i : ℕ) (bytes : List ℕ) (pieces : List Slice) → length pieces ≤ i → ArePieces offset (drop at bytes) (drop i pieces) → length bytes ≤ at
none_left offset at i bytes pieces over are =
    let nil : drop at bytes ≡ [] = subst (λ (ps : List Slice). ArePieces offset (drop at bytes) ps) (drop_all i pieces over) are in
    let n : length (drop at bytes) ≡ 0 = ap (λ (xs : List ℕ). length xs) nil in
    let m = length-drop at bytes in
    omega (arith, n, m)

pub no_data : (i written total : ℕ) (pieces : List Slice) → length pieces ≤ i → written + data_length (drop i pieces) ≡ total → written ≡ total
no_data i written total pieces over sum = let n : data_length (drop i pieces) ≡ 0 = ap (λ (ps : List Slice). data_length ps) (drop_all i pieces over) in omega (arith, n, sum)
