use Rattle.std.proofs.Common.{◌≡◌, drop}
use Rattle.lnbd_inflight.specs.Places.{first_waiting}
use Rattle.lnbd_inflight.proofs.places.first_unmarked.Given as goal

abbrev pub invariant-loop-at : goal.invariant-loop-at
invariant-loop-at l = first_waiting l.spots (drop l.at l.order.items) ≡ first_waiting l.spots (drop l.from l.order.items)
