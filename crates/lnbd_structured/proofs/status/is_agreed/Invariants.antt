use Rattle.std.proofs.Common.{◌≡◌, drop}
use Rattle.lnbd_outcome.specs.Faults.{context_of}
use Rattle.lnbd_structured.proofs.status.is_agreed.Given as goal

abbrev pub invariant-loop-context : goal.invariant-loop-context
invariant-loop-context l = context_of l.id l.contexts ≡ context_of l.id (drop l.context-index l.contexts)
