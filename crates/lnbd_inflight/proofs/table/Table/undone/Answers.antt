use Rattle.std.proofs.Common.{arith}
use Rattle.lnbd_inflight.specs.Inside.{view_of}
use Rattle.lnbd_inflight.proofs.Order.{length_order}
use Rattle.lnbd_inflight.proofs.Sound.{done_fits}
use Rattle.lnbd_inflight.proofs.table.Table.undone.Goals as goal

pub overflow_sub-result : goal.overflow_sub-result
overflow_sub-result g c =
    let all = done_fits (view_of c.self.inside) c.self.invariant.sound in
    let marks = length_order c.self.inside.done.items in
    omega (arith, c.self.invariant.placed.counted, c.self.inside.done.ok.0)

pub returns : goal.returns
returns g c =
    let all = done_fits (view_of c.self.inside) c.self.invariant.sound in
    let marks = length_order c.self.inside.done.items in
    rw (← c.self.view_is) (omega (arith, c.self.invariant.placed.counted, c.self.inside.done.ok.0))
