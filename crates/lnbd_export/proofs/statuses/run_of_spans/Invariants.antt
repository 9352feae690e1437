use Rattle.std.proofs.Common.{◌≡◌, ℕ, ◌-◌, ◌<◌, ◌≤◌}
use Rattle.lnbd_export.specs.Spans.{is_told_by}
use Rattle.lnbd_export.proofs.statuses.run_of_spans.Given as goal

abbrev pub invariant-loop-until : goal.invariant-loop-until
invariant-loop-until l = record {
  some : l.at < l.until;
  within : l.until ≤ l.end;
  alike : (p : ℕ) → l.at ≤ p → p < l.until → is_told_by l.zeros.spans.items p ≡ l.zero;
}

abbrev pub decreases-loop-until : goal.decreases-loop-until
decreases-loop-until l = l.end - l.until
