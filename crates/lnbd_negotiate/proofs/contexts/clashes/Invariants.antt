use Rattle.std.proofs.Common.{◌≡◌, drop}
use Rattle.lnbd_history.specs.Agreement.{clashes}
use Rattle.lnbd_negotiate.proofs.contexts.clashes.Given as goal

abbrev pub invariant-loop-other : goal.invariant-loop-other
invariant-loop-other l = clashes l.fn.context l.fn.contexts ≡ clashes l.fn.context (drop l.other-index l.fn.contexts)
