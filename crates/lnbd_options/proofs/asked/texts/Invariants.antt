use Rattle.std.proofs.Common.{◌-◌}
use Rattle.lnbd_records.specs.Requests.{texts_in}
use Rattle.lnbd_options.proofs.AskedLemmas.{IsSoFar}
use Rattle.lnbd_options.proofs.asked.texts.Given as goal

abbrev pub invariant-loop-index : goal.invariant-loop-index
invariant-loop-index l = IsSoFar (texts_in l.count l.bytes) l.list (l.count - l._index) l.rest
