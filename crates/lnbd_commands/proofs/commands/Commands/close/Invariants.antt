use Rattle.std.proofs.Common.{length}
use Rattle.lnbd_commands.proofs.CloseLemmas.{Closing}
use Rattle.lnbd_commands.proofs.commands.Commands.close.Given as goal

abbrev pub invariant-loop-cookie : goal.invariant-loop-cookie
invariant-loop-cookie g l = Closing g.K.Caller.steps l.fn.self l.fn.world l.table.rows l.desk.log l.freed l.world

abbrev pub decreases-loop-cookie : goal.decreases-loop-cookie
decreases-loop-cookie g l = length l.table.rows
