use Rattle.std.proofs.Common.{◌≡◌, true, drop}
use Rattle.lnbd_inflight.specs.Done.{is_done}
use Rattle.lnbd_inflight.specs.Marks.{order_of}
use Rattle.lnbd_inflight.proofs.marks.scanned.Given as goal

abbrev pub invariant-loop-at : goal.invariant-loop-at
invariant-loop-at l = is_done l.cookie (order_of (drop l.at l.order.items)) ≡ true
