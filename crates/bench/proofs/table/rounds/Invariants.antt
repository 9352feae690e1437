use Rattle.std.proofs.Common.{length}
use Rattle.bench.proofs.table.rounds.Given as goal

abbrev pub decreases-loop-row : goal.decreases-loop-row
decreases-loop-row l = length l.table.rows
