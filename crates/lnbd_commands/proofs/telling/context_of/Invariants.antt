use Rattle.std.proofs.Common.{◌≡◌, drop}
use Rattle.lnbd_outcome.specs.Faults.{context_of}
use Rattle.lnbd_commands.proofs.telling.context_of.Given as goal

abbrev pub invariant-loop-context : goal.invariant-loop-context
invariant-loop-context l = context_of l.id l.contexts ≡ context_of l.id (drop l.context-index l.context-items)
