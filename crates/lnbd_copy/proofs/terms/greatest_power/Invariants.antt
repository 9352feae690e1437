use Rattle.std.proofs.Common.{◌≡◌}
use Rattle.lnbd_conduct.specs.Terms.{greatest_power}
use Rattle.lnbd_copy.proofs.terms.greatest_power.Given as goal

abbrev pub invariant-powers : goal.invariant-powers
invariant-powers l = l.power ≡ greatest_power l.exponent l.most
