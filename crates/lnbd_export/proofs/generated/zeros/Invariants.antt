use Rattle.std.proofs.Common.{◌≡◌, ℕ, ◌-◌, ◌/◌, ◌%◌, ◌<◌, ◌≤◌, ◌&&◌, nat_lt}
use Rattle.lnbd_export.specs.Spans.{is_told_by}
use Rattle.lnbd_export.specs.Generated.{is_zero_block}
use Rattle.lnbd_export.proofs.generated.zeros.Given as goal

abbrev pub invariant-loop-start : goal.invariant-loop-start
invariant-loop-start l = record {
  within : l.start ≤ l.size;
  aligned : l.start < l.size → l.start % 4096 ≡ 0;
  held : (p : ℕ) → is_told_by l.zeros.spans.items p ≡ nat_lt p l.start && is_zero_block l.seed (p / 4096);
}

abbrev pub decreases-loop-start : goal.decreases-loop-start
decreases-loop-start l = l.size - l.start
