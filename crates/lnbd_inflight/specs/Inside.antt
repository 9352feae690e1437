-- What a table's fields show and keep.
use Rattle.std.specs.Prelude.{◌≤◌, nat_eq, length}
use Rattle.std.specs.VecDeque.{deque_capacity}
use Rattle.indexmap.specs.IndexMap.{get}
use Rattle.lnbd_inflight.specs.declared.table.Table.TheInside.{Inside}
use Rattle.lnbd_inflight.specs.Table.{Table, IsSound}
use Rattle.lnbd_inflight.specs.Marks.{order_of}
use Rattle.lnbd_inflight.specs.Places.{places_of}
use Rattle.lnbd_inflight.specs.Rows.{rows_in, IsPlaced}

module _ {R : Type 0} where
  -- the rows at the places that stand, and the cookies of the marks
  abbrev pub view_of : Inside R → Table R
  view_of a = record { rows = rows_in a.rows.items (places_of a.spots a.order.items); done = order_of a.done.items }

  -- what the fields keep
  pub record IsTable (a : Inside R) : Type 0 where
    pub placed : IsPlaced a.spots (get nat_eq a.index) a.rows.items a.order.items (order_of a.done.items)
    pub sound : IsSound (view_of a)
    -- there is room for a mark of each row
    pub fits : length (view_of a).rows ≤ deque_capacity a.done
