use Rattle.std.proofs.Common.{ℕ, subst}
use Rattle.lnbd_reel.specs.Ranges.{IsUneven}
use Rattle.lnbd_dump.proofs.terms.judge.Goals as goal

pub returns-in-Ok-clause-judges : goal.returns-in-Ok-clause-judges
returns-in-Ok-clause-judges c = record {
  fits = c.in-Ok.ensures.fits;
  even = λ u. c.in-Ok.ensures.even (subst (λ (n : ℕ). IsUneven c.args.offset n c.args.terms.size c.args.terms.block) c.in-Ok.ensures.count u);
  count = c.in-Ok.ensures.count;
  covers = c.in-Ok.ensures.covers;
}
