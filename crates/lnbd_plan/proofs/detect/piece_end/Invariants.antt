use Rattle.std.proofs.Common.{length, ◌-◌, ◌≡◌, ℕ, ◌+◌, ◌<◌, ◌≤◌, ◌%◌}
use Rattle.lnbd_plan.specs.Blocks.{in_zero_block}
use Rattle.lnbd_plan.proofs.detect.piece_end.Given as goal

abbrev pub invariant-loop-end : goal.invariant-loop-end
invariant-loop-end l = record {
  some : l.from < l.end;
  within : l.end ≤ length l.bytes;
  alike : (p : ℕ) → l.start + l.from ≤ p → p < l.start + l.end → in_zero_block l.block l.start l.bytes p ≡ l.zero;
  begins : l.end < length l.bytes → (l.start + l.end) % l.block ≡ 0;
}

abbrev pub decreases-loop-end : goal.decreases-loop-end
decreases-loop-end l = length l.bytes - l.end
