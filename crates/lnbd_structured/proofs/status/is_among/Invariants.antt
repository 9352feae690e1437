use Rattle.std.proofs.Common.{◌≡◌, drop}
use Rattle.lnbd_outcome.specs.Facts.{has}
use Rattle.lnbd_structured.proofs.status.is_among.Given as goal

abbrev pub invariant-loop-first : goal.invariant-loop-first
invariant-loop-first l = has l.ids l.id ≡ has (drop l.first-index l.ids) l.id
