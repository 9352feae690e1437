use Rattle.std.proofs.Common.{◌≡◌, ◌≢◌, ℕ, ◌<◌, List, Ok, Err, None, true, false, sym, get_or, arith, lit<}
use Rattle.std.specs.Str.{all_ascii_digits}
use Rattle.std.specs.Str.Parse.{digits_value, ParsesUnsigned}
use Rattle.std.proofs.lemmas.Str.Parse.{IsNumeralModel, numerals_by_value, tells_all_ascii_digits, parse_plain}
use Rattle.std.proofs.lemmas.Bool.{false≢true}
use Rattle.std.proofs.lemmas.Str.Pattern.{starts_char}
use Rattle.std.specs.Str.Pattern.{FindsCharPrefix}
use Rattle.lnbd_uri.specs.Parts.{IsPort}
use Rattle.lnbd_uri.proofs.authority.port_number.Goals as goal

own : IsNumeralModel (λ ds. all_ascii_digits ds ≡ true) (digits_value 10)
own = numerals_by_value _ tells_all_ascii_digits

-- what `parse` reads without a sign is a PORT, but for 0
port_read : (bs : List ℕ) (port : ℕ) → ParsesUnsigned {E = ℕ} 16 10 bs (Ok port) → get_or bs 0 0 ≢ 43 → 0 < port → IsPort bs port
port_read bs port parsed unsigned positive =
    let given = parse_plain own {E = ℕ} 16 bs (Ok port) parsed unsigned in
    record { nonempty = given.0.1; decimal = given.0.0; value = sym given.1; low = omega arith; high = omega (arith, given.0.2, given.1) }

-- what `parse` refuses is none
port_refused : (bs : List ℕ) (e : ℕ) → ParsesUnsigned 16 10 bs (Err e) → get_or bs 0 0 ≢ 43 → (port : ℕ) → IsPort bs port → ⊥
port_refused bs e refused unsigned port h =
    parse_plain own 16 bs (Err e) refused unsigned (h.decimal, h.nonempty, omega (arith, h.value, h.high))

no_sign : (bs : List ℕ) → FindsCharPrefix 43 bs None → get_or bs 0 0 ≢ 43
no_sign bs without e = false≢true ((starts_char 43 bs false without (lit< tt) (lit< tt)).1 e)

pub returns-in-Ok : goal.returns-in-Ok
returns-in-Ok c =
    port_read c.args.digits.now c.in-Ok.port c.in-Ok.ensures.value.0
    (no_sign c.args.digits.now c.if-starts_with.ensures.cases)
    c.if-port-gt0.true

pub returns-in_default-2 : goal.returns-in_default-2
returns-in_default-2 c =
    port_refused c.args.digits.now 0 c.in_default.ensures.value.0
    (no_sign c.args.digits.now c.if-starts_with.ensures.cases)
