use Rattle.std.proofs.Common.{◌∙◌, codes, refl, sym}
use Rattle.lnbd_args.proofs.ServeLemmas.{made_ok, made_usage}
use Rattle.lnbd_args.proofs.serve.content.Goals as goal

pub returns-in-None-clause-content : goal.returns-in-None-clause-content
returns-in-None-clause-content c parts t =
    made_ok parts c.made.result c.ok_or.result c.ok_or.ensures.value (c.made.ensures parts t (sym (c.in-None.ensures ∙ t.value (codes "file") _ refl refl)))

pub returns-in-None-clause-usage : goal.returns-in-None-clause-usage
returns-in-None-clause-usage c parts t =
    made_usage parts c.made.result c.ok_or.result c.ok_or.ensures.value (c.made.ensures parts t (sym (c.in-None.ensures ∙ t.value (codes "file") _ refl refl)))

pub returns-in-Some-clause-content : goal.returns-in-Some-clause-content
returns-in-Some-clause-content c parts t = c.file.ensures.content parts t (sym (c.in-Some.ensures ∙ t.value (codes "file") _ refl refl))

pub returns-in-Some-clause-usage : goal.returns-in-Some-clause-usage
returns-in-Some-clause-usage c parts t = c.file.ensures.usage parts t (sym (c.in-Some.ensures ∙ t.value (codes "file") _ refl refl))
