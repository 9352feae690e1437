use Rattle.std.proofs.Common.{◌≡◌, drop}
use Rattle.lnbd_outcome.specs.Facts.{has}
use Rattle.lnbd_outcome.specs.Faults.{all_contexts}
use Rattle.lnbd_structured.proofs.status.all_told.Given as goal

abbrev pub invariant-loop-context : goal.invariant-loop-context
invariant-loop-context l = all_contexts (has l.told) l.contexts ≡ all_contexts (has l.told) (drop l.context-index l.contexts)
