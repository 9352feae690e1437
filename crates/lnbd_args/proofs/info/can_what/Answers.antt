use Rattle.std.proofs.Common.{◌∙◌, codes, refl, sym, subst}
use Rattle.lnbd_args.specs.Tools.{IsNameOf}
use Rattle.lnbd_args.specs.Words.{Word}
use Rattle.lnbd_args.proofs.InfoLemmas.{differs, same_value, test_only}
use Rattle.lnbd_args.proofs.info.can_what.Goals as goal

pub returns-in_err-name : goal.returns-in_err-name
returns-in_err-name c =
    rw c.from_residual.ensures (λ parts t only asked h.
    test_only parts (codes "can") only refl refl refl asked h (λ p name v n. differs name (c.in_err-name.ensures ∙ t.value (codes "can") _ refl refl ∙ v)))

pub returns-in_err-predicate : goal.returns-in_err-predicate
returns-in_err-predicate c =
    rw c.from_residual-in_err-predicate.ensures (λ parts t only asked h.
    test_only parts (codes "can") only refl refl refl asked h (λ p name v n.
    let same = same_value c.in_ok-name.name.now name (c.in_ok-name.ensures ∙ t.value (codes "can") _ refl refl ∙ v) in
    c.in_err-predicate.ensures p (subst (λ (x : Word). IsNameOf p (codes "can") x) (sym same) n)))

pub returns : goal.returns
returns c parts t only =
    (codes "can", c.in_ok-name.name.now, only, sym (c.in_ok-name.ensures ∙ t.value (codes "can") _ refl refl), c.in_ok-predicate.ensures)
