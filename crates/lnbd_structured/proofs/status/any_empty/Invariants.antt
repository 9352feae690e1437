use Rattle.std.proofs.Common.{◌≡◌, drop}
use Rattle.lnbd_outcome.specs.Faults.{any_empty}
use Rattle.lnbd_structured.proofs.status.any_empty.Given as goal

abbrev pub invariant-loop-extent : goal.invariant-loop-extent
invariant-loop-extent l = any_empty l.extents ≡ any_empty (drop l.extent-index l.extents)
