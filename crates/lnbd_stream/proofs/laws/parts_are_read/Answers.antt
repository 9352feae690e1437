use Rattle.lnbd_stream.proofs.Grammar.{part_reads}
use Rattle.lnbd_stream.proofs.laws.parts_are_read.Goals as goal

pub returns : goal.returns
returns c = part_reads
