use Rattle.std.proofs.Common.{◌≤◌, ◌∙◌, Some, true≢false, ap, codes, length, refl, sym, subst}
use Rattle.lnbd_args.specs.Words.{Word}
use Rattle.lnbd_args.proofs.ServeLemmas.{file_only}
use Rattle.lnbd_args.proofs.serve.file.Goals as goal

pub returns-then-has_value-clause-usage : goal.returns-then-has_value-clause-usage
returns-then-has_value-clause-usage c parts t given is content h = file_only parts c.args.path.now given content h (λ short size seed.
    true≢false (sym c.if-has_value.true ∙ c.has_value.ensures ∙ sym (t.given (codes "size") _ refl refl) ∙ size))

pub returns-then-has_value-2-clause-usage : goal.returns-then-has_value-2-clause-usage
returns-then-has_value-2-clause-usage c parts t given is content h = file_only parts c.args.path.now given content h (λ short size seed.
    true≢false (sym c.if-has_value-2.true ∙ c.has_value-2.ensures ∙ sym (t.given (codes "seed") _ refl refl) ∙ seed))

pub returns-clause-content : goal.returns-clause-content
returns-clause-content c parts t given = (
  given ∙ ap Some (sym c.in_ok-path.ensures.text),
  subst (λ (x : Word). length x ≤ 4096) (sym c.in_ok-path.ensures.text) c.in_ok-path.ensures.short,
  t.given (codes "size") _ refl refl ∙ sym c.has_value.ensures ∙ c.if-has_value.false,
  t.given (codes "seed") _ refl refl ∙ sym c.has_value-2.ensures ∙ c.if-has_value-2.false,
)
