use Rattle.std.proofs.Common.{◌≡◌, ◌*◌, ◌-◌, ◌++◌, drop}
use Rattle.lnbd_chunks.specs.Chunk.{descriptors_in}
use Rattle.lnbd_structured.proofs.descriptors.descriptors_in.Given as goal

abbrev pub invariant-loop-index : goal.invariant-loop-index
invariant-loop-index l = l.entries.items ++ descriptors_in (l.count - l.index) (drop (8 * l.index) l.bytes) ≡ descriptors_in l.count l.bytes
