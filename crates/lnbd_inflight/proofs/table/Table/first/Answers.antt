use Rattle.std.proofs.Common.{nat_eq, ◌∙◌}
use Rattle.indexmap.specs.IndexMap.{get}
use Rattle.lnbd_inflight.specs.Marks.{order_of}
use Rattle.lnbd_inflight.proofs.Firsts.{first_is}
use Rattle.lnbd_inflight.proofs.table.Table.first.Goals as goal

pub returns : goal.returns
returns g c =
    let a = c.self.inside in
    rw (← c.self.view_is) (c.first_held.ensures ∙ first_is a.spots (get nat_eq a.index) a.rows.items a.order.items (order_of a.done.items) c.self.invariant.placed)
