use Rattle.std.proofs.Common.{◌≡◌}
use Rattle.tests_wire.proofs.plan.push_left.Given as goal

abbrev pub invariant-loop : goal.invariant-loop
invariant-loop l = l.plan.end ≡ l.fn.plan.end
