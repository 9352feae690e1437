use Rattle.std.proofs.Common.{◌∙◌, arith, ap, codes, string_bytes, sym}
use Rattle.std.specs.Str.{bytes_eq}
use Rattle.lnbd_args.proofs.RunLemmas.{stops}
use Rattle.lnbd_args.proofs.split.run_at.Goals as goal

pub returns-then-eq : goal.returns-then-eq
returns-then-eq c =
    let counted = c.loop-word.invariant.1 in
    let here = stops c.args.words.now c.loop-word.word-index c.word-item.result c.loop-word-test.true
    (ap (λ w. bytes_eq (string_bytes w) (codes "--run")) (sym c.word-item.is) ∙ ap (λ w. bytes_eq w (codes "--run")) (sym c.as_str.ensures.value) ∙ sym c.eq.ensures ∙ c.if-eq.true) in
    omega (arith, counted, here)
