-- A number at the right of its column.
use Rattle.std.proofs.Common.{◌≡◌, ◌∙◌, ℕ, ◌+◌, ◌-◌, ◌^◌, ◌<◌, zero, suc, List, [], ◌∷◌, ◌++◌, ap, append-nil, append_assoc, length-append, arith, length, refl, replicate, false}
use Rattle.std.specs.Prelude.{codes, encode_utf8, decimal}
use Rattle.std.specs.List.{repeat}
use Rattle.std.specs.Fmt.{char_count, format_spec, padded_integral}
use Rattle.std.proofs.lemmas.Fmt.{decimal_digit}
use Rattle.std.proofs.lemmas.Str.{encode_ascii}
use Rattle.lnbd_info.specs.Map.{right}

spaces : (n : ℕ) → repeat n (encode_utf8 32) ≡ replicate n 32
spaces zero = refl
spaces (suc n) =
    let one : encode_utf8 32 ≡ 32 ∷ [] = encode_ascii 32 (omega arith) in
    ap (λ (xs : List ℕ). xs ++ repeat n (encode_utf8 32)) one ∙ ap (λ (xs : List ℕ). 32 ∷ xs) (spaces n)

pub in_column : (places : ℕ) (digits : List ℕ) → padded_integral (format_spec 32 3 0 places (2 ^ 64 - 1)) false [] digits ≡ right places digits
unfolding padded_integral char_count
in_column places digits =
    let short : places - length digits - 0 - 0 ≡ places - length digits = omega arith in
    let none : (places - length digits) - (places - length digits) ≡ 0 = omega arith in
    rw (short, none, spaces (places - length digits)) (simp append-nil)

-- a point and one digit take two places
pub with_tenth : (ones tenth : ℕ) → tenth < 10 → right 3 (decimal ones) ++ (codes "." ++ decimal tenth) ≡ right 5 (decimal ones ++ (codes "." ++ decimal tenth))
with_tenth ones tenth small =
    let one : length (decimal tenth) ≡ 1 = ap length (decimal_digit tenth small) in
    let all : length (decimal ones ++ (46 ∷ decimal tenth)) ≡ length (decimal ones) + 2 = simp length-append (omega arith) in
    let places : 5 - length (decimal ones ++ (46 ∷ decimal tenth)) ≡ 3 - length (decimal ones) = omega arith in
    rw places (append_assoc (replicate (3 - length (decimal ones)) 32) (decimal ones) (46 ∷ decimal tenth))
