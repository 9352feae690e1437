use Rattle.std.proofs.Common.{nat_eq, sym, ap, is_some, ◌∙◌}
use Rattle.indexmap.specs.IndexMap.{get}
use Rattle.lnbd_inflight.specs.Marks.{order_of}
use Rattle.lnbd_inflight.proofs.Changes.{holds_kept}
use Rattle.lnbd_inflight.proofs.table.Table.find.Goals as goal

pub returns-in-Some-clause-held : goal.returns-in-Some-clause-held
returns-in-Some-clause-held g c =
    let a = c.self.inside in
    rw (← c.self.view_is) (ap is_some (sym c.in-Some.is ∙ c.find_key.ensures) ∙ sym (holds_kept a.spots (get nat_eq a.index) a.rows.items a.order.items (order_of a.done.items) c.self.invariant.placed c.args.cookie))

pub returns-in-None-clause-held : goal.returns-in-None-clause-held
returns-in-None-clause-held g c =
    let a = c.self.inside in
    rw (← c.self.view_is) (ap is_some (sym c.in-None.is ∙ c.find_key.ensures) ∙ sym (holds_kept a.spots (get nat_eq a.index) a.rows.items a.order.items (order_of a.done.items) c.self.invariant.placed c.args.cookie))
