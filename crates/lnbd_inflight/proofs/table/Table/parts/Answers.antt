use Rattle.std.proofs.Common.{nat_eq, sym}
use Rattle.indexmap.specs.IndexMap.{get}
use Rattle.lnbd_inflight.specs.Marks.{order_of}
use Rattle.lnbd_inflight.proofs.Changes.{holds_kept}
use Rattle.lnbd_inflight.proofs.table.Table.parts.Goals as goal

pub returns-clause-cookies : goal.returns-clause-cookies
returns-clause-cookies g c =
    let a = c.self.inside in
    rw (← c.self.view_is) (λ cookie. sym (holds_kept a.spots (get nat_eq a.index) a.rows.items a.order.items (order_of a.done.items) c.self.invariant.placed cookie))
