use Rattle.std.proofs.Common.{nat_eq}
use Rattle.indexmap.specs.IndexMap.{get}
use Rattle.lnbd_inflight.specs.Marks.{order_of}
use Rattle.lnbd_inflight.proofs.Changes.{none_left}
use Rattle.lnbd_inflight.proofs.table.Table.finish.Goals as goal

pub end-requires : goal.end-requires
end-requires g c =
    let a = c.self.inside in
    none_left a.spots (get nat_eq a.index) a.rows.items a.order.items (order_of a.done.items) c.self.invariant.placed (rw (← c.self.view_is) at c.requires)
