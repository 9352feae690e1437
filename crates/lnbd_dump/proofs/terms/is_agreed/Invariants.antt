use Rattle.std.proofs.Common.{◌≡◌, drop}
use Rattle.lnbd_dump.specs.Conduct.{is_agreed}
use Rattle.lnbd_dump.proofs.terms.is_agreed.Given as goal

abbrev pub invariant-contexts : goal.invariant-contexts
invariant-contexts l = is_agreed l.fn.contexts ≡ is_agreed (drop l.context-index l.fn.contexts)
