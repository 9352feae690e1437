-- The bytes that a source has left.
use Rattle.std.proofs.Common.{◌≡◌, ℕ, ◌+◌, ◌-◌, ◌<◌, ◌≤◌, min, List, [], ◌++◌, Some, length, take, drop, sym, ◌∙◌, ap, arith, take-append-drop}
use Rattle.std.proofs.lemmas.List.{drop-drop, drop_all}

-- where no byte can be given, none is left
pub none_left : (xs left bytes : List ℕ) (at room n : ℕ) → left ≡ drop at xs → n ≡ min (length xs - at) room → n ≡ 0 → 0 < room → Some left ≡ Some bytes → bytes ≡ []
none_left xs left bytes at room n is count zero more same =
    let past : length xs ≤ at = omega arith in
    let gone : drop at xs ≡ [] = drop_all at xs past in
    cc (same, is, gone)

-- what was given and what is left then was left before
pub given_left : (xs left into : List ℕ) (at n : ℕ) → left ≡ drop at xs → take n into ≡ take n (drop at xs) → Some left ≡ Some (take n into ++ drop (at + n) xs)
given_left xs left into at n is same =
    ap (λ (l : List ℕ). Some l) (is ∙ sym (take-append-drop n (drop at xs)) ∙ ap (λ (f : List ℕ). f ++ drop n (drop at xs)) (sym same) ∙ ap (λ (r : List ℕ). take n into ++ r) (drop-drop n at xs))
