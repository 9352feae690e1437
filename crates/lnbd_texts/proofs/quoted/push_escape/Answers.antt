use Rattle.std.proofs.Common.{◌≡◌, ◌<◌, ◌∷◌, [], List, ℕ, Option, Some, false, ap, arith, subst}
use Rattle.std.specs.Prelude.{OnOk, string_bytes}
use Rattle.std.specs.Fmt.{AppendsText, styled_digits_output, ◌++?◌}
use Rattle.std.proofs.lemmas.Fmt.{hex_byte}
use Rattle.lnbd_texts.specs.Runs.{hexadecimal}
use Rattle.lnbd_texts.proofs.quoted.push_escape.Goals as goal

pub returns : goal.returns
returns c =
    let small : c.args.byte < 256 = omega arith in
    let shown : styled_digits_output c.in_radix.result c.laid_out.result ≡ Some (hexadecimal c.args.byte) =
    rw (c.in_radix.ensures, c.laid_out.ensures) (ap Some (hex_byte false c.args.byte small)) in
    let Pushed : Option (List ℕ) → Type 0 =
    λ text. OnOk c.write.result (AppendsText (string_bytes c.args.text.now) (string_bytes c.write.new.self) (Some (92 ∷ 120 ∷ []) ++? text)) in
    subst Pushed shown c.write.ensures.bytes
