use Rattle.std.proofs.Common.{◌≡◌, ◌∙◌, ◌++◌, List, ℕ, sym, subst}
use Rattle.std.specs.Prelude.{OnOk, encode_utf8, string_bytes}
use Rattle.lnbd_texts.specs.Quoted.{quoted_bytes}
use Rattle.lnbd_texts.proofs.QuotedLemmas.{letter_is_escaped, letter_is_plain, pushed_as}
use Rattle.lnbd_texts.proofs.quoted.push_letter.Goals as goal

pub returns-then-is_escaped : goal.returns-then-is_escaped
returns-then-is_escaped c =
    subst (λ (t : List ℕ). OnOk c.push_escape.result (string_bytes c.push_escape.new.text ≡ string_bytes c.args.text.now ++ t))
    (sym (letter_is_escaped c.args.letter (sym c.is_escaped.ensures ∙ c.if-is_escaped.true))) c.push_escape.ensures

pub returns : goal.returns
returns c =
    pushed_as c.push.result (string_bytes c.args.text.now) (string_bytes c.push.new.self) (encode_utf8 c.args.letter) (quoted_bytes (encode_utf8 c.args.letter))
    c.push.ensures.bytes (letter_is_plain c.args.letter (sym c.is_escaped.ensures ∙ c.if-is_escaped.false))
