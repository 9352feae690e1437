-- What `parse` says of the digits of a number.
use Rattle.std.proofs.Common.{◌≡◌, ◌≢◌, ◌∙◌, ℕ, List, [], ◌∷◌, Result, Ok, Err, All, None, true, false, sym, subst, get_or, arith, lit<, MatchOption}
use Rattle.std.specs.Char.{is_ascii_digit}
use Rattle.std.specs.Result.{result_ok}
use Rattle.std.specs.Str.{all_ascii_digits}
use Rattle.std.specs.Str.Parse.{digits_value, ParsesUnsigned}
use Rattle.std.specs.Str.Pattern.{FindsCharPrefix}
use Rattle.std.proofs.lemmas.Bool.{and_parts, false≢true}
use Rattle.std.proofs.lemmas.List.Elements.{All-cons, All-nil}
use Rattle.std.proofs.lemmas.Str.Parse.{IsNumeralModel, numerals_by_value, tells_all_ascii_digits, parse_plain}
use Rattle.std.proofs.lemmas.Str.Pattern.{starts_char}
use Rattle.lnbd_lines.specs.Grammar.{IsNumber}

own : IsNumeralModel (λ ds. all_ascii_digits ds ≡ true) (digits_value 10)
own = numerals_by_value _ tells_all_ascii_digits

-- what `parse` reads without a sign is a number, and what it refuses is none
pub number_read : {E : Type 0} (bs : List ℕ) (r : Result ℕ E) → ParsesUnsigned {E = E} 64 10 bs r → get_or bs 0 0 ≢ 43
    → MatchOption (result_ok r) ((value : ℕ) → IsNumber bs value → ⊥) (λ value. IsNumber bs value)
number_read {E} bs (Ok value) parsed unsigned =
    let given = parse_plain own {E = E} 64 bs (Ok value) parsed unsigned in
    record { nonempty = given.0.1; decimal = given.0.0; value_is = sym given.1; fits = omega (arith, given.0.2, given.1) }
number_read {E} bs (Err e) refused unsigned = λ value h.
    parse_plain own {E = E} 64 bs (Err e) refused unsigned (h.decimal, h.nonempty, omega (arith, h.value_is, h.fits))

-- a text that begins with no sign
pub no_sign : (bs : List ℕ) → FindsCharPrefix 43 bs None → get_or bs 0 0 ≢ 43
no_sign bs without e = false≢true ((starts_char 43 bs false without (lit< tt) (lit< tt)).1 e)

-- digits hold no space
pub digits_no_space : (digits : List ℕ) → all_ascii_digits digits ≡ true → All (λ c. c ≢ 32) digits
digits_no_space [] all = All-nil (λ c. c ≢ 32)
digits_no_space (d ∷ digits) all =
    All-cons (λ c. c ≢ 32) d digits
    (λ e. false≢true (subst (λ x. is_ascii_digit x ≡ true) e (and_parts _ _ all).0))
    (digits_no_space digits (and_parts _ _ all).1)

-- the value of digits
pub number_once : (digits : List ℕ) (m n : ℕ) → IsNumber digits m → IsNumber digits n → m ≡ n
number_once digits m n h k = sym h.value_is ∙ k.value_is
