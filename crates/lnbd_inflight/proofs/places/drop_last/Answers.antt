use Rattle.std.proofs.Common.{◌-◌, Some, refl, ap, sym, ◌∙◌, arith, deque_len}
use Rattle.lnbd_inflight.proofs.Standing.{ends_at, last_gone}
use Rattle.lnbd_inflight.proofs.places.drop_last.Goals as goal

pub returns-then-is_standing-clause-ordered : goal.returns-then-is_standing-clause-ordered
returns-then-is_standing-clause-ordered c =
    let long = c.loop-place.order.ok.0 in
    let some = c.in-Some.ensures.variant.0 refl in
    record {
      rising = c.loop-place.invariant.1;
      ends = ends_at c.args.spots.now (deque_len c.loop-place.order - 1) c.in-Some.place.now c.loop-place.order.items (omega (arith, some)) c.in-Some.ensures.lookup (sym c.is_standing.ensures ∙ c.if-is_standing.true);
    }

pub loop-place-preserved : goal.loop-place-preserved
loop-place-preserved c =
    let some = c.in-Some.ensures.variant.0 refl in
    let gone = last_gone c.args.spots.now c.pop_back-gone.result c.in-Some.place.now c.loop-place.order.items c.pop_back-gone.new.self.items (c.pop_back-gone.ensures.value c.in-Some.place.now some ∙ sym (ap Some c.in-Some.ensures.lookup)) c.pop_back-gone.ensures.items (sym c.is_standing.ensures ∙ c.if-is_standing.false) c.loop-place.invariant.1 in
    (gone.0 ∙ c.loop-place.invariant.0, gone.1)
