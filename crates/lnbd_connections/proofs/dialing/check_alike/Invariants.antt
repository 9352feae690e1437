use Rattle.lnbd_connections.specs.Alike.{AreAlikeBelow}
use Rattle.lnbd_connections.proofs.dialing.check_alike.Given as goal

abbrev pub invariant-handles : goal.invariant-handles
invariant-handles l = record { below : AreAlikeBelow l.index l.handles }
