use Rattle.std.proofs.Common.{◌≡◌, ◌≤◌, ℕ, List, [], ◌∷◌, ◌++◌, Some, None, false, nat_eq, refl, ap, sym, ◌∙◌, subst, length, length-append, arith, deque_capacity}
use Rattle.std.specs.Map.{lookup}
use Rattle.slab.specs.Slab.{Slab, get as at_key, slab_len, Updates}
use Rattle.indexmap.specs.IndexMap.{get, IsUnchanged, Updates as Indexes}
use Rattle.lnbd_keyed.specs.Keyed.{IsBelow}
use Rattle.lnbd_inflight.specs.declared.places.Spot.{Spot}
use Rattle.lnbd_inflight.specs.declared.rows.Held.{Held}
use Rattle.lnbd_inflight.specs.Done.{is_done}
use Rattle.lnbd_inflight.specs.Inside.{view_of}
use Rattle.lnbd_inflight.specs.Marks.{order_of}
use Rattle.lnbd_inflight.specs.Places.{places_of}
use Rattle.lnbd_inflight.specs.Rows.{rows_in, IsPlaced}
use Rattle.lnbd_inflight.proofs.Changes.{grown, grown_rows, inserted, inserted_rows, when_ok, when_err}
use Rattle.lnbd_inflight.proofs.Sound.{sound_insert, undone_new}
use Rattle.lnbd_inflight.proofs.table.Table.insert.Goals as goal
use Rattle.lnbd_inflight.proofs.table.Table.insert.Goals.{In_default, Then-is_err, After-put}
use Rattle.lnbd_inflight.proofs.table.Table.insert.Given.{Over}

-- want of memory before the index
rows-1 : (g : Over) (c : In_default g) → rows_in c.grow.new.rows.items (places_of c.grow.new.spots c.grow.new.order.items) ≡ (view_of c.self.inside).rows
rows-1 g c =
    let a = c.self.inside in
    grown_rows a.spots c.grow.new.spots (get nat_eq a.index) (get nat_eq a.index) a.rows.items c.grow.new.rows.items a.order.items c.grow.new.order.items (order_of a.done.items) (order_of c.grow.new.done.items) c.grow.ensures.spots c.grow.ensures.rows c.grow.ensures.order (ap order_of c.grow.ensures.done)

pub invariant_of-self : goal.invariant_of-self
invariant_of-self g c =
    let a = c.self.inside in
    record {
      placed = grown a.spots c.grow.new.spots (get nat_eq a.index) (get nat_eq a.index) a.rows.items c.grow.new.rows.items a.order.items c.grow.new.order.items (order_of a.done.items) (order_of c.grow.new.done.items) c.grow.ensures.spots c.grow.ensures.rows c.grow.ensures.order (ap order_of c.grow.ensures.done) c.self.invariant.placed (λ n. refl);
      sound = rw (rows-1 g c, c.grow.ensures.done) c.self.invariant.sound;
      fits = rw (rows-1 g c) (let most = c.self.invariant.fits in omega (arith, c.grow.ensures.done_capacity));
    }

pub returns-in_default-clause-unchanged : goal.returns-in_default-clause-unchanged
returns-in_default-clause-unchanged g c = rw (rows-1 g c, c.grow.ensures.done) c.self.view_is

-- want of memory at the index
rows-2 : (g : Over) (c : Then-is_err g) → rows_in c.grow.new.rows.items (places_of c.grow.new.spots c.grow.new.order.items) ≡ (view_of c.self.inside).rows
rows-2 g c =
    let a = c.self.inside in
    grown_rows a.spots c.grow.new.spots (get nat_eq a.index) (get nat_eq a.index) a.rows.items c.grow.new.rows.items a.order.items c.grow.new.order.items (order_of a.done.items) (order_of c.grow.new.done.items) c.grow.ensures.spots c.grow.ensures.rows c.grow.ensures.order (ap order_of c.grow.ensures.done)

pub invariant_of-self-then-is_err : goal.invariant_of-self-then-is_err
invariant_of-self-then-is_err g c =
    let a = c.self.inside in
    let same : IsUnchanged a.index c.insert.new.self = when_err c.insert.result (IsUnchanged a.index c.insert.new.self) c.is_err.result c.if-is_err.true c.is_err.ensures.value c.insert.ensures.err in
    record {
      placed = grown a.spots c.grow.new.spots (get nat_eq a.index) (get nat_eq c.insert.new.self) a.rows.items c.grow.new.rows.items a.order.items c.grow.new.order.items (order_of a.done.items) (order_of c.grow.new.done.items) c.grow.ensures.spots c.grow.ensures.rows c.grow.ensures.order (ap order_of c.grow.ensures.done) c.self.invariant.placed (λ n. ap (lookup (nat_eq n)) same);
      sound = rw (rows-2 g c, c.grow.ensures.done) c.self.invariant.sound;
      fits = rw (rows-2 g c) (let most = c.self.invariant.fits in omega (arith, c.grow.ensures.done_capacity));
    }

pub returns-then-is_err-clause-unchanged : goal.returns-then-is_err-clause-unchanged
returns-then-is_err-clause-unchanged g c = rw (rows-2 g c, c.grow.ensures.done) c.self.view_is

-- one more row
module _ (g : Over) (c : After-put g) where
  abbrev held : Held g.row.R.Denot
  held = record { stamp = 0; row = c.args.row }

  room : rows_in c.grow.new.rows.items (places_of c.grow.new.spots c.grow.new.order.items) ≡ (view_of c.self.inside).rows
  room =
      let a = c.self.inside in
      grown_rows a.spots c.grow.new.spots (get nat_eq a.index) (get nat_eq a.index) a.rows.items c.grow.new.rows.items a.order.items c.grow.new.order.items (order_of a.done.items) (order_of c.grow.new.done.items) c.grow.ensures.spots c.grow.ensures.rows c.grow.ensures.order (ap order_of c.grow.ensures.done)

  kept : IsPlaced c.grow.new.spots (get nat_eq c.self.inside.index) c.grow.new.rows.items c.grow.new.order.items (order_of c.grow.new.done.items)
  kept =
      let a = c.self.inside in
      grown a.spots c.grow.new.spots (get nat_eq a.index) (get nat_eq a.index) a.rows.items c.grow.new.rows.items a.order.items c.grow.new.order.items (order_of a.done.items) (order_of c.grow.new.done.items) c.grow.ensures.spots c.grow.ensures.rows c.grow.ensures.order (ap order_of c.grow.ensures.done) c.self.invariant.placed (λ n. refl)

  under : IsBelow (view_of c.self.inside).rows c.args.cookie
  under = rw (← c.self.view_is) at c.requires

  below : IsBelow (rows_in c.grow.new.rows.items (places_of c.grow.new.spots c.grow.new.order.items)) c.args.cookie
  below = subst (λ (xs : List (ℕ × g.row.R.Denot)). IsBelow xs c.args.cookie) (sym room) under

  fresh : is_done c.args.cookie (order_of c.grow.new.done.items) ≡ false
  fresh = ap (λ (d : List ℕ). is_done c.args.cookie d) (ap order_of c.grow.ensures.done) ∙ undone_new c.args.cookie (view_of c.self.inside) c.self.invariant.sound under

  vacant : at_key c.grow.new.spots c.in-Ok.key ≡ None
  vacant = ap (λ (s : Slab Spot). at_key s c.in-Ok.key) c.grow.ensures.spots ∙ c.in-Ok.ensures.vacant

  same_key : c.insert_reserved-key.result ≡ c.in-Ok.key
  same_key = c.insert_reserved-key.ensures.key ∙ sym c.in-Ok.ensures.key

  update : Updates c.grow.new.spots c.insert_reserved-key.new.self c.in-Ok.key (Some (record { cookie = c.args.cookie; done = false }))
  update = subst (λ (k : ℕ). Updates c.grow.new.spots c.insert_reserved-key.new.self k (Some (record { cookie = c.args.cookie; done = false }))) same_key c.insert_reserved-key.ensures.updates

  indexes : Indexes nat_eq c.self.inside.index c.insert.new.self c.args.cookie (Some c.in-Ok.key)
  indexes = when_ok c.insert.result (Indexes nat_eq c.self.inside.index c.insert.new.self c.args.cookie (Some c.in-Ok.key)) c.is_err.result c.if-is_err.false c.is_err.ensures.value c.insert.ensures.updates

  rows : rows_in c.put.new.rows.items (places_of c.insert_reserved-key.new.self c.push_back_reserved.new.self.items) ≡ (view_of c.self.inside).rows ++ (c.args.cookie, c.args.row) ∷ []
  rows =
      ap (λ (o : List (ℕ × ℕ)). rows_in c.put.new.rows.items (places_of c.insert_reserved-key.new.self o)) c.push_back_reserved.ensures.items
      ∙ inserted_rows c.grow.new.spots c.insert_reserved-key.new.self (get nat_eq c.self.inside.index) (get nat_eq c.insert.new.self) c.grow.new.rows.items c.put.new.rows.items c.grow.new.order.items (order_of c.grow.new.done.items) c.args.cookie c.in-Ok.key held kept below fresh vacant update c.insert_reserved-key.ensures.len c.put.ensures (λ n. indexes.0 n)
      ∙ ap (λ (xs : List (ℕ × g.row.R.Denot)). xs ++ (c.args.cookie, c.args.row) ∷ []) room

  placed : IsPlaced c.insert_reserved-key.new.self (get nat_eq c.insert.new.self) c.put.new.rows.items c.push_back_reserved.new.self.items (order_of c.grow.new.done.items)
  placed = subst (λ (o : List (ℕ × ℕ)). IsPlaced c.insert_reserved-key.new.self (get nat_eq c.insert.new.self) c.put.new.rows.items o (order_of c.grow.new.done.items)) (sym c.push_back_reserved.ensures.items)
      (inserted c.grow.new.spots c.insert_reserved-key.new.self (get nat_eq c.self.inside.index) (get nat_eq c.insert.new.self) c.grow.new.rows.items c.put.new.rows.items c.grow.new.order.items (order_of c.grow.new.done.items) c.args.cookie c.in-Ok.key held kept below fresh vacant update c.insert_reserved-key.ensures.len c.put.ensures (λ n. indexes.0 n))

  fits : length ((view_of c.self.inside).rows ++ (c.args.cookie, c.args.row) ∷ []) ≤ deque_capacity c.grow.new.done
  fits =
      let long = length-append (view_of c.self.inside).rows ((c.args.cookie, c.args.row) ∷ []) in
      let count = ap slab_len c.grow.ensures.spots ∙ c.self.invariant.placed.counted in
      omega (arith, c.in-Ok.ensures.done_room)

pub invariant_of-self-2 : goal.invariant_of-self-2
invariant_of-self-2 g c = record {
  placed = placed g c;
  sound = rw (rows g c, c.grow.ensures.done) (sound_insert c.args.cookie c.args.row (view_of c.self.inside) c.self.invariant.sound (under g c));
  fits = rw (rows g c) (fits g c);
}

pub returns-clause-rows : goal.returns-clause-rows
returns-clause-rows g c = rw (← c.self.view_is) (rows g c)
