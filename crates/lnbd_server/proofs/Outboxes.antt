-- What is put into a row of bytes, and what of it waits.
use Rattle.std.proofs.Common.{◌≡◌, ℕ, ◌+◌, ◌-◌, ◌≤◌, List, [], ◌++◌, length, take, drop, ap, sym, ◌∙◌, arith, append_assoc, length-append}
use Rattle.std.proofs.lemmas.List.{length-take-le, length-drop, take_all, take_at, take-take, take-append-le, drop-append-le, drop_at, drop-drop, drop-take, drop_all}

-- what stands before the place stays
pub front_stays : (row piece tail : List ℕ) (at n : ℕ) → n ≤ at → at ≤ length row → take n (take at row ++ (piece ++ tail)) ≡ take n row
front_stays row piece tail at n low within =
    let size : length (take at row) ≡ at = length-take-le at row within in
    take-append-le n (take at row) (piece ++ tail) (omega (arith, size, low)) ∙ take-take n at row low

-- and the piece behind it
pub piece_ends : (row piece tail : List ℕ) (at : ℕ) → at ≤ length row → take (at + length piece) (take at row ++ (piece ++ tail)) ≡ take at row ++ piece
piece_ends row piece tail at within =
    let size : length (take at row) ≡ at = length-take-le at row within in
    let all : length (take at row ++ piece) ≡ at + length piece = omega (arith, size, length-append (take at row) piece) in
    ap (λ (xs : List ℕ). take (at + length piece) xs) (sym (append_assoc (take at row) piece tail)) ∙ take_at (take at row ++ piece) tail (at + length piece) all

-- a row to which the rest of the piece was added
tail_is : (row front rest : List ℕ) (at : ℕ) → at + length front ≡ length row → drop (at + length front) (row ++ rest) ≡ rest
tail_is row front rest at e = drop_at row rest (at + length front) (sym e)

-- the row as it is then, by what stood in it
grown_is : (row front rest : List ℕ) (at : ℕ) → at ≤ length row → at + length front ≡ length row → take at (row ++ rest) ++ (front ++ drop (at + length front) (row ++ rest)) ≡ take at row ++ (front ++ rest)
grown_is row front rest at within e =
    ap (λ (xs : List ℕ). take at (row ++ rest) ++ (front ++ xs)) (tail_is row front rest at e) ∙ ap (λ (xs : List ℕ). xs ++ (front ++ rest)) (take-append-le at row rest within)

pub grown_ends : (row front rest : List ℕ) (at end : ℕ) → at ≤ length row → at + length front ≡ length row → end ≡ length (take at row ++ (front ++ rest))
    → take end (take at (row ++ rest) ++ (front ++ drop (at + length front) (row ++ rest))) ≡ take at row ++ (front ++ rest)
grown_ends row front rest at end within e all =
    ap (λ (xs : List ℕ). take end xs) (grown_is row front rest at within e) ∙ take_all end (take at row ++ (front ++ rest)) (omega (arith, all))

pub grown_stays : (row front rest : List ℕ) (at n : ℕ) → n ≤ at → at ≤ length row → at + length front ≡ length row → take n (take at (row ++ rest) ++ (front ++ drop (at + length front) (row ++ rest))) ≡ take n row
grown_stays row front rest at n low within e = ap (λ (xs : List ℕ). take n xs) (grown_is row front rest at within e) ∙ front_stays row front rest at n low within

-- What waits, where something was added behind it.
pub behind : (row new added : List ℕ) (gone at end : ℕ) → gone ≤ at → at ≤ length row → take end new ≡ take at row ++ added → drop gone (take end new) ≡ drop gone (take at row) ++ added
behind row new added gone at end low within e =
    let size : length (take at row) ≡ at = length-take-le at row within in
    ap (λ (xs : List ℕ). drop gone xs) e ∙ drop-append-le gone (take at row) added (omega (arith, size, low))

-- Nothing, where all of it has gone.
pub none_waits : (row : List ℕ) (gone n end : ℕ) → gone + n ≡ end → end ≤ length row → [] ≡ drop n (drop gone (take end row))
none_waits row gone n end e within =
    let size : length (take end row) ≡ end = length-take-le end row within in
    sym (drop-drop n gone (take end row) ∙ drop_all (gone + n) (take end row) (omega (arith, e, size)))

-- How much waits.
pub how_many : (row : List ℕ) (gone end : ℕ) → end ≤ length row → length (drop gone (take end row)) ≡ end - gone
how_many row gone end within =
    let size : length (take end row) ≡ end = length-take-le end row within in
    let left = length-drop gone (take end row) in
    omega (arith, size, left)

-- What waits, where it was moved to the front.
pub slid : (row rest : List ℕ) (from end : ℕ) → from ≤ end → end ≤ length row → take (end - from) (take (end - from) (drop from row) ++ rest) ≡ drop from (take end row)
slid row rest from end order within =
    let left = length-drop from row in
    let size : length (take (end - from) (drop from row)) ≡ end - from = length-take-le (end - from) (drop from row) (omega (arith, left, within)) in
    let whole : from + (end - from) ≡ end = omega (arith, order) in
    take_at (take (end - from) (drop from row)) rest (end - from) size ∙ sym (drop-take from (end - from) row) ∙ ap (λ (n : ℕ). drop from (take n row)) whole

pub slid_back : (row new moved tail back more : List ℕ) (from end len : ℕ) → from ≤ end → end ≤ length row → end ≤ len → new ≡ moved ++ tail → moved ≡ take (end - from) (drop from row)
    → take (end - from) (take len ((new ++ back) ++ more)) ≡ drop from (take end row)
slid_back row new moved tail back more from end len order within fits is which =
    take-take (end - from) len ((new ++ back) ++ more) (omega (arith, fits))
    ∙ ap (λ (xs : List ℕ). take (end - from) xs) (append_assoc new back more)
    ∙ ap (λ (xs : List ℕ). take (end - from) (xs ++ (back ++ more))) (is ∙ ap (λ (xs : List ℕ). xs ++ tail) which)
    ∙ ap (λ (xs : List ℕ). take (end - from) xs) (append_assoc (take (end - from) (drop from row)) tail (back ++ more))
    ∙ slid row (tail ++ (back ++ more)) from end order within
