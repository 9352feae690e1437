use Rattle.std.proofs.Common.{◌≡◌, drop}
use Rattle.lnbd_ask.specs.Maps.{is_agreed}
use Rattle.lnbd_ask.proofs.mapping.is_agreed.Given as goal

abbrev pub invariant-contexts : goal.invariant-contexts
invariant-contexts l = is_agreed l.fn.name l.fn.contexts ≡ is_agreed l.fn.name (drop l.context-index l.fn.contexts)
