use Rattle.std.proofs.Common.{◌≡◌, ℕ, ◌-◌, ◌%◌, ◌<◌, ◌≤◌, get_or, length}
use Rattle.lnbd_export.specs.Generated.{byte_at}
use Rattle.lnbd_export.proofs.generated.content.Given as goal

abbrev pub invariant-loop-start : goal.invariant-loop-start
invariant-loop-start l = record {
  within : l.start ≤ l.size;
  aligned : l.start < l.size → l.start % 4096 ≡ 0;
  size : length l.content.items ≡ l.start;
  bytes : (p : ℕ) → p < l.start → get_or l.content.items p 0 ≡ byte_at l.seed p;
}

abbrev pub decreases-loop-start : goal.decreases-loop-start
decreases-loop-start l = l.size - l.start
