use Rattle.std.proofs.Common.{◌≡◌, ℕ, ◌%◌, ◌<◌, get_or, length}
use Rattle.lnbd_export.proofs.generated.rising.Given as goal

abbrev pub invariant-loop-i : goal.invariant-loop-i
invariant-loop-i l = record {
  size : length l.rising.items ≡ l.i;
  bytes : (k : ℕ) → k < l.i → get_or l.rising.items k 0 ≡ k % 256;
}
