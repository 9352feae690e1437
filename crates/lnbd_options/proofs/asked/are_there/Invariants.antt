use Rattle.std.proofs.Common.{◌≡◌, ◌-◌, is_some}
use Rattle.lnbd_records.specs.Requests.{texts_in}
use Rattle.lnbd_options.proofs.asked.are_there.Given as goal

abbrev pub invariant-loop-index : goal.invariant-loop-index
invariant-loop-index l = is_some (texts_in l.count l.bytes) ≡ is_some (texts_in (l.count - l._index) l.rest)
