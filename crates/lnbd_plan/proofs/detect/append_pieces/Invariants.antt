use Rattle.std.proofs.Common.{length, ◌-◌, ◌≡◌, ◌+◌, ◌<◌, ◌≤◌, ◌++◌, take, false}
use Rattle.lnbd_plan.specs.Slices.{slices_of}
use Rattle.lnbd_plan.specs.Blocks.{in_zero_block, Begins}
use Rattle.lnbd_plan.proofs.detect.append_pieces.Given as goal

abbrev pub invariant-loop-from : goal.invariant-loop-from
invariant-loop-from l = record {
  within : l.from ≤ length l.bytes;
  so_far : l.out.items ++ slices_of (in_zero_block l.block l.start l.bytes) (λ _. false) (l.start + l.from) (length l.bytes - l.from)
      ≡ l.fn.out.items ++ slices_of (in_zero_block l.block l.start l.bytes) (λ _. false) l.start (length l.bytes);
  begins : l.from < length l.bytes → Begins l.block l.start l.from;
  told : l.from < length l.bytes → in_zero_block l.block l.start l.bytes (l.start + l.from) ≡ l.zero;
  kept : take (length l.fn.out.items) l.out.items ≡ l.fn.out.items;
}

abbrev pub decreases-loop-from : goal.decreases-loop-from
decreases-loop-from l = length l.bytes - l.from
