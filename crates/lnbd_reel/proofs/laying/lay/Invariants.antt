use Rattle.lnbd_reel.proofs.LayLemmas.{Lays}
use Rattle.lnbd_reel.proofs.laying.lay.Given as goal

abbrev pub invariant-extents : goal.invariant-extents
invariant-extents l = Lays l.from l.size l.block l.extents l.extent-index l.laying l.runs
