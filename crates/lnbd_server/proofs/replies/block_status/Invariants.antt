use Rattle.std.proofs.Common.{◌≡◌, ◌+◌, ◌*◌, length, take}
use Rattle.lnbd_records.specs.Numbers.{row}
use Rattle.lnbd_records.specs.Transmission.{block_status}
use Rattle.lnbd_server.proofs.replies.block_status.Given as goal

abbrev pub invariant-loop-extent : goal.invariant-loop-extent
invariant-loop-extent l = record {
  so_far : l.payload.items ≡ row (block_status 1 (take l.extent-index l.statuses));
  size : length l.payload.items ≡ 4 + 8 * l.extent-index;
}
