use Rattle.std.proofs.Common.{◌≡◌, ◌++◌, take, drop}
use Rattle.lnbd_inflight.specs.Places.{places_of}
use Rattle.lnbd_inflight.proofs.places.gather.Given as goal

-- those that were met and stand come after those that were not met
abbrev pub invariant-loop : goal.invariant-loop
invariant-loop l = l.order.items ≡ drop l.counter l.initial.order.items ++ places_of l.spots (take l.counter l.initial.order.items)
