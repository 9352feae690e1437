use Rattle.std.proofs.Common.{◌+◌}
use Rattle.lnbd_keyed.specs.Keyed.{IsBelow}
use Rattle.bench.proofs.table.issue.Given as goal

abbrev pub invariant-loop-number : goal.invariant-loop-number
invariant-loop-number l = IsBelow l.table.rows (l.first + l.number)
