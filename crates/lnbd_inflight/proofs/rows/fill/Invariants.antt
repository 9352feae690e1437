use Rattle.std.proofs.Common.{◌≤◌, ◌-◌, length, vec_capacity}
use Rattle.lnbd_inflight.specs.Rows.{SameSlots}
use Rattle.lnbd_inflight.proofs.rows.fill.Given as goal

abbrev pub invariant-loop-rows : goal.invariant-loop-rows
invariant-loop-rows g l = SameSlots l.initial.rows.items l.rows.items × (l.key ≤ vec_capacity l.rows)

abbrev pub decreases-loop-rows : goal.decreases-loop-rows
decreases-loop-rows g l = l.key - length l.rows.items
