use Rattle.std.proofs.Common.{◌∙◌, Err, Option, ap, codes, refl, sym, subst}
use Rattle.lnbd_args.specs.Tools.{IsWithin}
use Rattle.lnbd_args.specs.Words.{Word}
use Rattle.lnbd_args.proofs.ToolLemmas.{handed_on}
use Rattle.lnbd_args.proofs.serve.served.Goals as goal

pub returns-in_default-clause-usage : goal.returns-in_default-clause-usage
returns-in_default-clause-usage c parts t is content read_only sessions h =
    c.in_default.ensures sessions (subst (λ (g : Option Word). IsWithin 1 1 1000000 g sessions) (sym (t.value (codes "sessions") _ refl refl)) h.sessions_is)

pub returns-in_err-content-clause-usage : goal.returns-in_err-content-clause-usage
returns-in_err-content-clause-usage c parts t is content read_only sessions h =
    c.in_err-content.ensures.usage parts t (ap Err (handed_on c.from_residual.result _ _ c.from_residual.ensures.1 is)) content h.content_is

pub returns-clause-served : goal.returns-clause-served
returns-clause-served c parts t = record {
  content_is = c.in_ok-content.ensures.content parts t;
  sessions_is = subst (λ (g : Option Word). IsWithin 1 1 1000000 g c.in-Some.sessions) (t.value (codes "sessions") _ refl refl) c.in-Some.ensures;
  read_only_is = c.is_given-read_only.ensures ∙ t.flag (codes "read-only") _ refl refl;
}
