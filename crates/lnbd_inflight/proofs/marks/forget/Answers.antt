use Rattle.std.proofs.Common.{◌<◌, length, IsSome, arith, sym, ◌∙◌}
use Rattle.lnbd_inflight.specs.Marks.{order_of}
use Rattle.lnbd_inflight.proofs.Order.{removed, forgetting_none}
use Rattle.lnbd_inflight.proofs.marks.forget.Goals as goal

pub returns-then-done-clause-items : goal.returns-then-done-clause-items
returns-then-done-clause-items c =
    let there : c.spot_of-at.result < length c.args.order.now.items → IsSome c.remove-mark.result = λ l. c.remove-mark.ensures.variant.1 (omega arith) in
    removed c.remove-mark.result c.spot_of-at.result c.args.cookie c.args.order.now.items c.remove-mark.new.self.items there c.remove-mark.ensures.items c.requires.once c.spot_of-at.ensures

pub returns-else-done-clause-items : goal.returns-else-done-clause-items
returns-else-done-clause-items c = sym (forgetting_none c.args.cookie (order_of c.args.order.now.items) (sym c.requires.agrees ∙ c.if-done.false))
