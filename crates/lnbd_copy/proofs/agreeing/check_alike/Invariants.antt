use Rattle.lnbd_copy.proofs.ToldAlikeLemmas.{AlikeBelow}
use Rattle.lnbd_copy.proofs.agreeing.check_alike.Given as goal

abbrev pub invariant-handles : goal.invariant-handles
invariant-handles l = record { below : AlikeBelow l.sides l.index l.handles }
