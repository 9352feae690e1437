use Rattle.std.proofs.Common.{Some, nat_eq, refl, ap, sym, ◌∙◌, arith, slice_set}
use Rattle.std.specs.Option.{option_map, option_copied_mut}
use Rattle.indexmap.specs.IndexMap.{get}
use Rattle.lnbd_inflight.specs.declared.rows.Held.{Held}
use Rattle.lnbd_inflight.specs.Inside.{view_of}
use Rattle.lnbd_inflight.specs.Marks.{order_of}
use Rattle.lnbd_keyed.proofs.KeyedLemmas.{length_with}
use Rattle.lnbd_inflight.proofs.Changes.{held_kept, slot_within, slot_at, slot_set, value_at_kept}
use Rattle.lnbd_inflight.proofs.Placing.{row_of}
use Rattle.lnbd_inflight.proofs.Sound.{sound_with}
use Rattle.lnbd_inflight.proofs.Writes.{written, written_rows}
use Rattle.lnbd_inflight.proofs.table.Table.row_mut.Goals as goal

pub key_of-key-requires-clause-held : goal.key_of-key-requires-clause-held
key_of-key-requires-clause-held g c =
    let a = c.self.inside in
    held_kept a.spots (get nat_eq a.index) a.rows.items a.order.items (order_of a.done.items) c.self.invariant.placed c.args.cookie (rw (← c.self.view_is) at c.requires)

pub index_mut-slot-requires : goal.index_mut-slot-requires
index_mut-slot-requires g c = let less = slot_within c.key_of-key.result c.self.inside.rows.items (c.self.invariant.placed.filled c.args.cookie c.key_of-key.result c.key_of-key.ensures) in omega (arith, c.self.inside.rows.ok.0)

pub invariant_of-self-lent : goal.invariant_of-self-lent
invariant_of-self-lent g c w =
    let a = c.self.inside in
    let k = c.key_of-key.result in
    let less = slot_within k a.rows.items (c.self.invariant.placed.filled c.args.cookie k c.key_of-key.ensures) in
    let held : Held g.row.R.Denot = record { stamp = c.unwrap-held.result.now.stamp; row = w } in
    let changes = slot_set k (Some held) a.rows.items less in
    let rows = written_rows a.spots (get nat_eq a.index) a.rows.items (slice_set a.rows.items k (Some held)) a.order.items (order_of a.done.items) c.args.cookie k held c.self.invariant.placed c.key_of-key.ensures changes in
    record {
      placed = written a.spots (get nat_eq a.index) a.rows.items (slice_set a.rows.items k (Some held)) a.order.items (order_of a.done.items) c.args.cookie k held c.self.invariant.placed c.key_of-key.ensures changes;
      sound = rw rows (sound_with c.args.cookie w (view_of a) c.self.invariant.sound);
      fits = rw rows (let most = c.self.invariant.fits in omega (arith, length_with c.args.cookie w (view_of a).rows));
    }

pub returns : goal.returns
returns g c =
    let a = c.self.inside in
    let k = c.key_of-key.result in
    let less = slot_within k a.rows.items (c.self.invariant.placed.filled c.args.cookie k c.key_of-key.ensures) in
    let at = slot_at k c.index_mut-slot.result.now a.rows.items less c.index_mut-slot.ensures.value ∙ sym c.as_mut.ensures.value ∙ ap option_copied_mut c.unwrap-held.ensures in
    let row = value_at_kept a.spots (get nat_eq a.index) a.rows.items a.order.items (order_of a.done.items) c.self.invariant.placed c.args.cookie ∙ ap (row_of a.rows.items) c.key_of-key.ensures ∙ ap (option_map (λ (h : Held g.row.R.Denot). h.row)) at in (
      (refl, λ w. rw (← c.self.view_is) (λ i. record { rows = written_rows a.spots (get nat_eq a.index) a.rows.items (slice_set a.rows.items k (Some (record { stamp = c.unwrap-held.result.now.stamp; row = w }))) a.order.items (order_of a.done.items) c.args.cookie k (record { stamp = c.unwrap-held.result.now.stamp; row = w }) c.self.invariant.placed c.key_of-key.ensures (slot_set k (Some (record { stamp = c.unwrap-held.result.now.stamp; row = w })) a.rows.items less) i; done = order_of a.done.items })),
      record { writes_back = tt; value = rw (← c.self.view_is) row },
    )
