-- What is left of an inbox.
use Rattle.std.proofs.Common.{◌≡◌, ◌+◌, ◌-◌, ◌≤◌, ℕ, List, length, take, drop, sym, ◌∙◌, ap, arith}
use Rattle.std.proofs.lemmas.List.{drop-drop, drop-take, length-drop, length-take-le}

-- the bytes from one place to another
abbrev pub between : (from to : ℕ) → List ℕ → List ℕ
between from to bytes = take (to - from) (drop from bytes)

length_between : (from to : ℕ) (bytes : List ℕ) → to ≤ length bytes → length (between from to bytes) ≡ to - from
length_between from to bytes within = let long = length-drop from bytes in length-take-le (to - from) (drop from bytes) (omega (arith, long, within))

pub without_front : (n from to : ℕ) (bytes : List ℕ) → from ≤ to → to ≤ length bytes → n ≤ length (between from to bytes) → between (from + n) to bytes ≡ drop n (between from to bytes)
without_front n from to bytes order within some =
    let less : n ≤ to - from = omega (arith, some, length_between from to bytes within) in
    let size : n + (to - (from + n)) ≡ to - from = omega (arith, less, order) in
    ap (λ (l : List ℕ). take (to - (from + n)) l) (sym (drop-drop n from bytes)) ∙ sym (drop-take n (to - (from + n)) (drop from bytes)) ∙ ap (λ (k : ℕ). drop n (take k (drop from bytes))) size
