use Rattle.std.proofs.Common.{◌≡◌, ◌∙◌, sym, subst, ℕ, ◌<◌, arith}
use Rattle.std.proofs.lemmas.Nat.{shl_whole}
use Rattle.lnbd_copy.specs.Terms.{IsGreatestPower}
use Rattle.lnbd_conduct.specs.Terms.{greatest_power}
use Rattle.lnbd_copy.proofs.PowerLemmas.{power_fits, power_is_greatest, power_none, power_some, power_stays}
use Rattle.lnbd_copy.proofs.terms.greatest_power.Goals.{then-next-most, else-next-most}
use Rattle.lnbd_copy.proofs.terms.greatest_power.Goals as goal

pub powers-init : goal.powers-init
powers-init c = power_none c.args.most

pub powers-preserved : goal.powers-preserved
powers-preserved c =
    let below = c.powers-test.true in
    let next = shl_whole 2 2 c.powers.exponent 32 (omega arith) (omega (arith, below)) in
    elim c.if-next-most.branch [
      | then-next-most w ↦ w.power-is ∙ power_fits c.powers.exponent c.args.most _ next w.if-next-most.true
      | else-next-most w ↦ w.power-is ∙ power_stays c.powers.exponent c.args.most _ c.powers.power next w.if-next-most.false c.powers.invariant
    ]

pub returns-clause-some : goal.returns-clause-some
returns-clause-some c = subst (λ (n : ℕ). 0 < n) (sym c.powers.invariant) (power_some c.powers.exponent c.args.most)

pub returns-clause-greatest : goal.returns-clause-greatest
returns-clause-greatest c some =
    let end : c.powers.exponent ≡ 25 = omega arith in
    let most = c.requires in
    subst (IsGreatestPower c.args.most) (sym (subst (λ (n : ℕ). c.powers.power ≡ greatest_power n c.args.most) end c.powers.invariant)) (power_is_greatest 25 c.args.most some (omega (arith, most)))
