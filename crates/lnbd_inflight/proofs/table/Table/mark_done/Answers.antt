use Rattle.std.proofs.Common.{◌≡◌, ℕ, List, [], ◌∷◌, ◌++◌, Some, IsSome, true, false, nat_eq, ap, sym, subst, ◌∙◌, arith}
use Rattle.slab.specs.Slab.{get as at_key, Updates, with_value as spot_at}
use Rattle.slab.proofs.SlabLemmas.{Updates-with_value}
use Rattle.indexmap.specs.IndexMap.{get}
use Rattle.lnbd_inflight.specs.declared.places.Spot.{Spot}
use Rattle.lnbd_inflight.specs.Done.{is_done}
use Rattle.lnbd_inflight.specs.Inside.{view_of}
use Rattle.lnbd_inflight.specs.Marks.{order_of}
use Rattle.lnbd_inflight.specs.Places.{places_of}
use Rattle.lnbd_inflight.specs.Rows.{rows_in, IsPlaced}
use Rattle.lnbd_inflight.proofs.Changes.{held_kept, is_some_of, some_one}
use Rattle.lnbd_inflight.proofs.Order.{length_order, order_append, done_last, done_before_last}
use Rattle.lnbd_inflight.proofs.Sound.{sound_mark, done_fits, unfinished}
use Rattle.lnbd_inflight.proofs.Writes.{marked, marked_rows, slab_len-with_value}
use Rattle.lnbd_inflight.proofs.table.Table.mark_done.Goals as goal
use Rattle.lnbd_inflight.proofs.table.Table.mark_done.Goals.{After-push_back_reserved}
use Rattle.lnbd_inflight.proofs.table.Table.mark_done.Given.{Over}

pub key_of-key-requires-clause-held : goal.key_of-key-requires-clause-held
key_of-key-requires-clause-held g c =
    let a = c.self.inside in
    held_kept a.spots (get nat_eq a.index) a.rows.items a.order.items (order_of a.done.items) c.self.invariant.placed c.args.cookie (rw (← c.self.view_is) at c.requires.held)

pub push_back_reserved-requires : goal.push_back_reserved-requires
push_back_reserved-requires g c =
    let all = done_fits (view_of c.self.inside) c.self.invariant.sound in
    let one = unfinished c.args.cookie (order_of c.self.inside.done.items) (view_of c.self.inside).rows (rw (← c.self.view_is) at c.requires.held) (rw (← c.self.view_is) at c.requires.undone) in
    let marks = length_order c.self.inside.done.items in
    let most = c.self.invariant.fits in
    omega (arith, c.self.inside.done.ok.0)

module _ (g : Over) (c : After-push_back_reserved g) where
  abbrev spot : Spot
  spot = record { cookie = c.args.cookie; done = true }

  abbrev written : Spot
  written = record { cookie = c.index_mut.result.now.cookie; done = true }

  there : IsSome (at_key c.self.inside.spots c.key_of-key.result)
  there = is_some_of (at_key c.self.inside.spots c.key_of-key.result) c.index_mut.ensures.value

  is_spot : written ≡ spot
  is_spot = ap (λ (s : Spot). record { cookie = s.cookie; done = true }) (some_one (at_key c.self.inside.spots c.key_of-key.result) c.index_mut.ensures.value (c.self.invariant.placed.marked c.args.cookie c.key_of-key.result c.key_of-key.ensures))

  update : Updates c.self.inside.spots (spot_at c.self.inside.spots c.key_of-key.result written) c.key_of-key.result (Some spot)
  update = subst (λ (s : Spot). Updates c.self.inside.spots (spot_at c.self.inside.spots c.key_of-key.result written) c.key_of-key.result (Some s)) is_spot (Updates-with_value c.self.inside.spots c.key_of-key.result written there)

  fresh : is_done c.args.cookie (order_of c.self.inside.done.items) ≡ false
  fresh = rw (← c.self.view_is) at c.requires.undone

  marks : order_of c.push_back_reserved.new.self.items ≡ order_of c.self.inside.done.items ++ c.args.cookie ∷ []
  marks = ap order_of c.push_back_reserved.ensures.items ∙ order_append (record { cookie = c.args.cookie; stamp = c.self.inside.next_stamp }) c.self.inside.done.items

  rows : rows_in c.stamp_at.new.rows.items (places_of (spot_at c.self.inside.spots c.key_of-key.result written) c.self.inside.order.items) ≡ (view_of c.self.inside).rows
  rows = marked_rows c.self.inside.spots (spot_at c.self.inside.spots c.key_of-key.result written) (get nat_eq c.self.inside.index) c.self.inside.rows.items c.stamp_at.new.rows.items c.self.inside.order.items (order_of c.self.inside.done.items) (order_of c.self.inside.done.items ++ c.args.cookie ∷ []) c.args.cookie c.key_of-key.result
      c.self.invariant.placed c.key_of-key.ensures update (slab_len-with_value c.self.inside.spots c.key_of-key.result written there) c.stamp_at.ensures
      (done_last c.args.cookie (order_of c.self.inside.done.items)) (λ n. done_before_last n c.args.cookie (order_of c.self.inside.done.items))

  placed : IsPlaced (spot_at c.self.inside.spots c.key_of-key.result written) (get nat_eq c.self.inside.index) c.stamp_at.new.rows.items c.self.inside.order.items (order_of c.push_back_reserved.new.self.items)
  placed = subst (λ (d : List ℕ). IsPlaced (spot_at c.self.inside.spots c.key_of-key.result written) (get nat_eq c.self.inside.index) c.stamp_at.new.rows.items c.self.inside.order.items d) (sym marks)
      (marked c.self.inside.spots (spot_at c.self.inside.spots c.key_of-key.result written) (get nat_eq c.self.inside.index) c.self.inside.rows.items c.stamp_at.new.rows.items c.self.inside.order.items (order_of c.self.inside.done.items) (order_of c.self.inside.done.items ++ c.args.cookie ∷ []) c.args.cookie c.key_of-key.result
      c.self.invariant.placed c.key_of-key.ensures update (slab_len-with_value c.self.inside.spots c.key_of-key.result written there) c.stamp_at.ensures
      (done_last c.args.cookie (order_of c.self.inside.done.items)) (λ n. done_before_last n c.args.cookie (order_of c.self.inside.done.items)))

pub invariant_of-self : goal.invariant_of-self
invariant_of-self g c = record {
  placed = placed g c;
  sound = rw (rows g c, marks g c) (sound_mark c.args.cookie (view_of c.self.inside) c.self.invariant.sound (rw (← c.self.view_is) at c.requires.held) (fresh g c));
  fits = rw (rows g c, c.push_back_reserved.ensures.capacity) c.self.invariant.fits;
}

pub returns-clause-rows : goal.returns-clause-rows
returns-clause-rows g c = rw (← c.self.view_is) (rows g c)
