use Rattle.std.proofs.Common.{◌≡◌, length}
use Rattle.lnbd_keyed.specs.Keyed.{IsRising}
use Rattle.lnbd_inflight.specs.Places.{places_of}
use Rattle.lnbd_inflight.proofs.places.drop_first.Given as goal

abbrev pub invariant-loop-place : goal.invariant-loop-place
invariant-loop-place l = (places_of l.spots l.order.items ≡ places_of l.spots l.initial.order.items) × IsRising l.order.items

abbrev pub decreases-loop-place : goal.decreases-loop-place
decreases-loop-place l = length l.order.items
