use Rattle.std.proofs.Common.{◌≡◌, ◌≤◌, ◌≢◌, ℕ, List, Some, nat_eq, length, refl, ap, sym, ◌∙◌, arith, deque_capacity}
use Rattle.std.specs.Map.{lookup}
use Rattle.slab.specs.Slab.{get as at_key}
use Rattle.indexmap.specs.IndexMap.{get}
use Rattle.lnbd_keyed.specs.Keyed.{value_at, without}
use Rattle.lnbd_keyed.proofs.KeyedLemmas.{length_without}
use Rattle.lnbd_inflight.specs.declared.places.Spot.{Spot}
use Rattle.lnbd_inflight.specs.Done.{is_done}
use Rattle.lnbd_inflight.specs.Inside.{view_of}
use Rattle.lnbd_inflight.specs.Marks.{order_of}
use Rattle.lnbd_inflight.specs.Places.{places_of}
use Rattle.lnbd_inflight.specs.Rows.{rows_in, IsPlaced}
use Rattle.lnbd_inflight.proofs.Changes.{value_at_kept, kept_room, is_some_of, some_one}
use Rattle.lnbd_inflight.proofs.Order.{done_other}
use Rattle.lnbd_inflight.proofs.Placing.{row_of}
use Rattle.lnbd_inflight.proofs.Removal.{removed, removed_rows, removed_value}
use Rattle.lnbd_inflight.proofs.Sound.{sound_without}
use Rattle.lnbd_inflight.proofs.table.Table.remove.Goals as goal
use Rattle.lnbd_inflight.proofs.table.Table.remove.Goals.{After-tidy}
use Rattle.lnbd_inflight.proofs.table.Table.remove.Given.{Over}

-- a cookie that isn't held
pub invariant_of-self : goal.invariant_of-self
invariant_of-self g c =
    let a = c.self.inside in
    record {
      placed = kept_room a.rows.items a.rows.items (λ j. refl) a.spots a.spots.capacity (get nat_eq a.index) (get nat_eq c.swap_remove.new.self) a.order.items (order_of a.done.items) c.self.invariant.placed (λ n. ap (lookup (nat_eq n)) c.in_err-key.ensures.unchanged);
      sound = c.self.invariant.sound;
      fits = c.self.invariant.fits;
    }

pub returns-in_err-key-clause-value : goal.returns-in_err-key-clause-value
returns-in_err-key-clause-value g c =
    let a = c.self.inside in
    rw (← c.self.view_is) (c.from_residual.ensures ∙ sym (value_at_kept a.spots (get nat_eq a.index) a.rows.items a.order.items (order_of a.done.items) c.self.invariant.placed c.args.cookie ∙ ap (row_of a.rows.items) (sym c.in_err-key.ensures.value)))

-- one that is
pub remove-spot-requires : goal.remove-spot-requires
remove-spot-requires g c = is_some_of (at_key c.self.inside.spots c.in_ok-key.key) (c.self.invariant.placed.marked c.args.cookie c.in_ok-key.key (sym c.in_ok-key.ensures.value))

pub take-stamp-requires : goal.take-stamp-requires
take-stamp-requires g c = c.self.invariant.placed.filled c.args.cookie c.in_ok-key.key (sym c.in_ok-key.ensures.value)

pub forget-requires-clause-agrees : goal.forget-requires-clause-agrees
forget-requires-clause-agrees g c =
    let a = c.self.inside in
    ap (λ (s : Spot). s.done) (some_one (at_key a.spots c.in_ok-key.key) c.remove-spot.ensures.value (c.self.invariant.placed.marked c.args.cookie c.in_ok-key.key (sym c.in_ok-key.ensures.value)))

module _ (g : Over) (c : After-tidy g) where
  others : (n : ℕ) → n ≢ c.args.cookie → is_done n (order_of c.forget.new.order.items) ≡ is_done n (order_of c.self.inside.done.items)
  others n other = ap (λ (d : List ℕ). is_done n d) c.forget.ensures.items ∙ done_other n c.args.cookie (order_of c.self.inside.done.items) other

  here : get nat_eq c.self.inside.index c.args.cookie ≡ Some c.in_ok-key.key
  here = sym c.in_ok-key.ensures.value

  rows : rows_in c.take-stamp.new.rows.items (places_of c.remove-spot.new.self c.tidy.new.order.items) ≡ without c.args.cookie (view_of c.self.inside).rows
  rows =
      let a = c.self.inside in
      removed_rows a.spots c.remove-spot.new.self (get nat_eq a.index) (get nat_eq c.swap_remove.new.self) a.rows.items c.take-stamp.new.rows.items a.order.items c.tidy.new.order.items (order_of a.done.items) (order_of c.forget.new.order.items) c.args.cookie c.in_ok-key.key c.take-stamp.result
      c.self.invariant.placed here c.take-stamp.ensures.value c.remove-spot.ensures.updates c.remove-spot.ensures.len c.take-stamp.ensures.rows (λ n. c.swap_remove.ensures.updates.0 n) c.tidy.ensures.same c.tidy.ensures.ordered others

  placed : IsPlaced c.remove-spot.new.self (get nat_eq c.swap_remove.new.self) c.take-stamp.new.rows.items c.tidy.new.order.items (order_of c.forget.new.order.items)
  placed =
      let a = c.self.inside in
      removed a.spots c.remove-spot.new.self (get nat_eq a.index) (get nat_eq c.swap_remove.new.self) a.rows.items c.take-stamp.new.rows.items a.order.items c.tidy.new.order.items (order_of a.done.items) (order_of c.forget.new.order.items) c.args.cookie c.in_ok-key.key c.take-stamp.result
      c.self.invariant.placed here c.take-stamp.ensures.value c.remove-spot.ensures.updates c.remove-spot.ensures.len c.take-stamp.ensures.rows (λ n. c.swap_remove.ensures.updates.0 n) c.tidy.ensures.same c.tidy.ensures.ordered others

  value : Some c.take-stamp.result.row ≡ value_at c.args.cookie (view_of c.self.inside).rows
  value =
      let a = c.self.inside in
      sym (removed_value a.spots c.remove-spot.new.self (get nat_eq a.index) (get nat_eq c.swap_remove.new.self) a.rows.items c.take-stamp.new.rows.items a.order.items c.tidy.new.order.items (order_of a.done.items) (order_of c.forget.new.order.items) c.args.cookie c.in_ok-key.key c.take-stamp.result
      c.self.invariant.placed here c.take-stamp.ensures.value c.remove-spot.ensures.updates c.remove-spot.ensures.len c.take-stamp.ensures.rows (λ n. c.swap_remove.ensures.updates.0 n) c.tidy.ensures.same c.tidy.ensures.ordered others)

  fits : length (without c.args.cookie (view_of c.self.inside).rows) ≤ deque_capacity c.self.inside.done
  fits =
      let less = length_without c.args.cookie c.take-stamp.result.row (view_of c.self.inside).rows (sym value) in
      let most = c.self.invariant.fits in
      omega arith

pub invariant_of-self-2 : goal.invariant_of-self-2
invariant_of-self-2 g c = record {
  placed = placed g c;
  sound = rw (rows g c, c.forget.ensures.items) (sound_without c.args.cookie (view_of c.self.inside) c.self.invariant.sound);
  fits = rw (rows g c, c.forget.ensures.capacity) (fits g c);
}

pub returns-clause-value : goal.returns-clause-value
returns-clause-value g c = rw (← c.self.view_is) (value g c)

pub returns-clause-rows : goal.returns-clause-rows
returns-clause-rows g c = rw (← c.self.view_is) (rows g c)
