use Rattle.std.proofs.Common.{◌∙◌, Err, ap, string_bytes, subst, sym}
use Rattle.lnbd_args.proofs.ServeLemmas.{IsShort, short_at}
use Rattle.lnbd_args.proofs.ToolLemmas.{handed_on}
use Rattle.lnbd_args.proofs.text.texts.Goals as goal

pub returns-in_err-kept-clause-usage : goal.returns-in_err-kept-clause-usage
returns-in_err-kept-clause-usage c is short =
    c.in_err-kept.ensures.usage (ap Err (handed_on c.from_residual.result _ _ c.from_residual.ensures.1 is))
    (subst IsShort (sym (c.as_str.ensures.value ∙ ap string_bytes c.word-item.is)) (short_at c.args.words.now c.loop-word.word-index c.word-item.result c.loop-word-test.true short))
