use Rattle.std.proofs.Common.{◌≡◌, take}
use Rattle.lnbd_ask.proofs.copies.copy_contexts.Given as goal

abbrev pub invariant-contexts : goal.invariant-contexts
invariant-contexts l = l.copy ≡ take l.context-index l.contexts
