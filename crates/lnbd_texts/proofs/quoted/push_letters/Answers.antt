use Rattle.std.proofs.lemmas.Str.{IsUtf8-past_char}
use Rattle.std.specs.Prelude.{string_bytes}
use Rattle.std.specs.Str.Iter.{chars_rest}
use Rattle.lnbd_texts.proofs.QuotedLemmas.{rest_pushed, all_pushed}
use Rattle.lnbd_texts.proofs.quoted.push_letters.Goals as goal

pub letters-preserved : goal.letters-preserved
letters-preserved c =
    let held = c.letters.invariant in
    let parts = c.in-Some.ensures.steps.0 in
    (IsUtf8-past_char _ _ c.in-Some.letter held.0 parts, rest_pushed c.args.letters.now (string_bytes c.args.text.now) _ _ _ _ c.in-Some.letter held.1 parts c.in_ok-push_letter.ensures)

pub returns : goal.returns
returns c = all_pushed c.args.letters.now (string_bytes c.args.text.now) (string_bytes c.letters.text) (chars_rest c.letters.letter-iterator) c.in-None.ensures.steps.0.0 c.letters.invariant.1
