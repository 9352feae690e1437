use Rattle.std.proofs.Common.{◌≡◌, ap, subst, sym, ◌∙◌, arith}
use Rattle.lnbd_keyed.specs.Keyed.{IsRising}
use Rattle.lnbd_inflight.specs.Places.{places_of}
use Rattle.lnbd_inflight.proofs.Standing.{gathered, places_twice, rising_places}
use Rattle.lnbd_inflight.proofs.places.gather.Goals as goal

all : (c : goal.After-loop) → c.loop.order.items ≡ places_of c.args.spots.now c.args.order.now.items
all c = gathered c.args.spots.now c.loop.counter c.args.order.now.items c.loop.order.items (let long = c.args.order.now.ok.0 in omega (arith, c.loop-test.false, c.len-end.ensures)) c.loop.invariant

pub returns-clause-same : goal.returns-clause-same
returns-clause-same c = ap (places_of c.args.spots.now) (all c) ∙ places_twice c.args.spots.now c.args.order.now.items

pub returns-clause-rising : goal.returns-clause-rising
returns-clause-rising c = subst IsRising (sym (all c)) (rising_places c.args.spots.now c.args.order.now.items c.requires)
