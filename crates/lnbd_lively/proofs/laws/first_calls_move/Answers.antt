use Rattle.lnbd_lively.proofs.Moving.{first_reads_bring, first_writes_take}
use Rattle.lnbd_lively.proofs.laws.first_calls_move.Goals as goal

pub returns-clause-reads : goal.returns-clause-reads
returns-clause-reads c = first_reads_bring

pub returns-clause-writes : goal.returns-clause-writes
returns-clause-writes c = first_writes_take
