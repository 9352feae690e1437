use Rattle.std.proofs.Common.{◌≡◌, ◌+◌, ◌*◌, ◌∷◌, length, take, flat_map}
use Rattle.lnbd_records.specs.Numbers.{number, row}
use Rattle.lnbd_records.specs.Transmission.{extended_descriptor}
use Rattle.lnbd_server.proofs.replies.extended_block_status.Given as goal

abbrev pub invariant-loop-extent : goal.invariant-loop-extent
invariant-loop-extent l = record {
  so_far : l.payload.items ≡ row (number 4 1 ∷ number 4 (length l.statuses) ∷ flat_map (λ d. extended_descriptor d.length d.flags) (take l.extent-index l.statuses));
  size : length l.payload.items ≡ 8 + 16 * l.extent-index;
}
