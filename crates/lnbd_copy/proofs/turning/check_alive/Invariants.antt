use Rattle.lnbd_copy.proofs.DecidingLemmas.{AliveBelow}
use Rattle.lnbd_copy.proofs.turning.check_alive.Given as goal

abbrev pub invariant-handles : goal.invariant-handles
invariant-handles l = record { below : AliveBelow l.index l.fn.handles }
