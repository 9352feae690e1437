use Rattle.std.proofs.Common.{◌≡◌, ℕ, ◌-◌, length}
use Rattle.lnbd_export.specs.Spans.{tells_at}
use Rattle.lnbd_export.proofs.spans.grow.Given as goal

abbrev pub invariant-loop-alloc : goal.invariant-loop-alloc
invariant-loop-alloc l = (k p : ℕ) → tells_at l.spans.items k p ≡ tells_at l.fn.spans.items k p

abbrev pub decreases-loop-alloc : goal.decreases-loop-alloc
decreases-loop-alloc l = l.count - length l.spans.items
