use Rattle.std.proofs.Common.{◌≡◌, drop}
use Rattle.lnbd_inflight.specs.Places.{first_standing}
use Rattle.lnbd_inflight.proofs.places.first_held.Given as goal

abbrev pub invariant-loop-at : goal.invariant-loop-at
invariant-loop-at l = first_standing l.spots (drop l.at l.order.items) ≡ first_standing l.spots l.order.items
