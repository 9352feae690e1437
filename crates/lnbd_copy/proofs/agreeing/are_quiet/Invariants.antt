use Rattle.lnbd_copy.proofs.AgreeLemmas.{QuietBelow}
use Rattle.lnbd_copy.proofs.agreeing.are_quiet.Given as goal

abbrev pub invariant-handles : goal.invariant-handles
invariant-handles l = QuietBelow l.index l.handles
