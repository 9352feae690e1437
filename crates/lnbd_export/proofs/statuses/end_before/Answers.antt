use Rattle.std.proofs.Common.{◌+◌, ◌-◌, ◌≤◌, ◌^◌, arith, refl}
use Rattle.lnbd_export.proofs.WalkLaws.{front_room, range_room}
use Rattle.lnbd_export.proofs.statuses.end_before.Goals as goal

pub overflow_add-result : goal.overflow_add-result
overflow_add-result c =
    let h : c.get-start.result.0 + c.get-start.result.1 ≤ 2 ^ 63 = range_room c.args.zeros.now (c.args.place - 1) c.get-start.result c.are_longest.ensures.within (omega arith) c.get-start.ensures in
    omega arith

pub returns : goal.returns
returns c = front_room c.args.zeros.now c.args.place (c.args.place - 1) c.get-start.result refl c.get-start.ensures c.if-place-eq0.false
