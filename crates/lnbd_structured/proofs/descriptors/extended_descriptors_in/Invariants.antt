use Rattle.std.proofs.Common.{◌≡◌, ◌*◌, ◌-◌, ◌++◌, drop}
use Rattle.lnbd_chunks.specs.Chunk.{extended_descriptors_in}
use Rattle.lnbd_structured.proofs.descriptors.extended_descriptors_in.Given as goal

abbrev pub invariant-loop-index : goal.invariant-loop-index
invariant-loop-index l = l.entries.items ++ extended_descriptors_in (l.count - l.index) (drop (16 * l.index) l.bytes) ≡ extended_descriptors_in l.count l.bytes
