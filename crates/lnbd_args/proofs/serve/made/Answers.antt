use Rattle.std.proofs.Common.{Option, codes, refl, sym, subst}
use Rattle.lnbd_args.specs.Tools.{IsNumberOr, IsSize}
use Rattle.lnbd_args.specs.Words.{Word}
use Rattle.lnbd_args.proofs.ServeLemmas.{made_only}
use Rattle.lnbd_args.proofs.serve.made.Goals as goal

pub returns-in_err-size : goal.returns-in_err-size
returns-in_err-size c =
    rw c.from_residual.ensures (λ parts t none content h. made_only parts none content h (λ size seed s n.
    c.in_err-size.ensures size (subst (λ (g : Option Word). IsSize g size) (sym (t.value (codes "size") _ refl refl)) s)))

pub returns-in_err-seed : goal.returns-in_err-seed
returns-in_err-seed c =
    rw c.from_residual-in_err-seed.ensures (λ parts t none content h. made_only parts none content h (λ size seed s n.
    c.in_err-seed.ensures seed (subst (λ (g : Option Word). IsNumberOr 0 g seed) (sym (t.value (codes "seed") _ refl refl)) n)))

pub returns : goal.returns
returns c parts t none = (
  none,
  subst (λ (g : Option Word). IsSize g c.in_ok-size.size) (t.value (codes "size") _ refl refl) c.in_ok-size.ensures,
  subst (λ (g : Option Word). IsNumberOr 0 g c.in_ok-seed.seed) (t.value (codes "seed") _ refl refl) c.in_ok-seed.ensures,
)
