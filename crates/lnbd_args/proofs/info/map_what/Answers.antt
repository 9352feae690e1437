use Rattle.std.proofs.Common.{◌∙◌, Err, ap, Option, codes, refl, sym, subst}
use Rattle.lnbd_args.specs.Tools.{IsContext}
use Rattle.lnbd_args.specs.Words.{Word}
use Rattle.lnbd_args.proofs.InfoLemmas.{map_only}
use Rattle.lnbd_args.proofs.ToolLemmas.{handed_on}
use Rattle.lnbd_args.proofs.info.map_what.Goals as goal

pub returns-in_err-context-clause-usage : goal.returns-in_err-context-clause-usage
returns-in_err-context-clause-usage c parts t only is asked h =
    map_only parts only asked h (λ context k.
    c.in_err-context.ensures.usage (ap Err (handed_on c.from_residual.result _ _ c.from_residual.ensures.1 is)) context (subst (λ (o : Option Word). IsContext o context) (sym (c.value-given.ensures ∙ t.value (codes "context") _ refl refl)) k))

pub returns-then-is_given-clause-what : goal.returns-then-is_given-clause-what
returns-then-is_given-clause-what c parts t only = (
  only,
  sym (t.flag (codes "totals") _ refl refl) ∙ sym c.is_given.ensures ∙ c.if-is_given.true,
  subst (λ (o : Option Word). IsContext o c.in_ok-context.context) (c.value-given.ensures ∙ t.value (codes "context") _ refl refl) c.in_ok-context.ensures.context,
)

pub returns-clause-what : goal.returns-clause-what
returns-clause-what c parts t only = (
  only,
  sym (t.flag (codes "totals") _ refl refl) ∙ sym c.is_given.ensures ∙ c.if-is_given.false,
  subst (λ (o : Option Word). IsContext o c.in_ok-context.context) (c.value-given.ensures ∙ t.value (codes "context") _ refl refl) c.in_ok-context.ensures.context,
)
