use Rattle.std.proofs.Common.{length}
use Rattle.tests_handle.proofs.inflight.end.Given as goal

abbrev pub decreases-loop-cookie : goal.decreases-loop-cookie
decreases-loop-cookie l = length l.table.rows
