use Rattle.std.proofs.Common.{◌≡◌, ◌≤◌, ℕ, ◌*◌, not}
use Rattle.lnbd_export.specs.Generated.{is_zero_block}
use Rattle.lnbd_rehearsal.specs.Sums.{block_of, bytes_in, holds_data}
use Rattle.lnbd_rehearsal.proofs.sums.sums_of.Given as goal

abbrev pub invariant-loop-block : goal.invariant-loop-block
invariant-loop-block l = record {
  read : l.read ≡ bytes_in (λ (block : ℕ). not (is_zero_block l.seed block)) l.bytes l.block;
  written : l.written ≡ bytes_in (λ (block : ℕ). holds_data (block_of l.bytes block)) l.bytes l.block;
  few_read : l.read ≤ l.block * 4096;
  few_written : l.written ≤ l.block * 4096;
}
