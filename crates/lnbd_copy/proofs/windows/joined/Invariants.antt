use Rattle.lnbd_copy.proofs.SparedLemmas.{JoinsAll}
use Rattle.lnbd_copy.proofs.windows.joined.Given as goal

abbrev pub invariant-extents : goal.invariant-extents
invariant-extents l = JoinsAll l.told l.list.items l.extent-index l.left l.most
