use Rattle.lnbd_copy.proofs.UnpartedLemmas.{UnpartedBelow}
use Rattle.lnbd_copy.proofs.wanting.check_unparted.Given as goal

abbrev pub invariant-handles : goal.invariant-handles
invariant-handles l = UnpartedBelow l.index l.handles
