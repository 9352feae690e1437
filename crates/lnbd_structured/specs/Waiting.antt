-- What the code knows of a command in flight.
use Rattle.lnbd_chunks.specs.Chunk.{Waiting}
use Rattle.lnbd_structured.specs.declared.grammar.Waiting.{Waiting as Known}

abbrev pub seen_waiting : Known → Waiting
seen_waiting known = record { kind = known.kind; offset = known.offset; length = known.length; faults = known.faults }
