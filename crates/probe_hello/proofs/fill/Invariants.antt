use Rattle.std.proofs.Common.{◌≤◌, length}
use Rattle.probe_hello.proofs.fill.Given as goal

abbrev pub invariant-loop : goal.invariant-loop
invariant-loop g l = l.read ≤ length l.into
