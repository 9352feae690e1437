use Rattle.lnbd_memnet.proofs.Wanted.{reads_are_let_in, writes_are_let_in}
use Rattle.lnbd_memnet.proofs.laws.none_is_shut_out.Goals as goal

pub returns-clause-reads : goal.returns-clause-reads
returns-clause-reads c = reads_are_let_in

pub returns-clause-writes : goal.returns-clause-writes
returns-clause-writes c = writes_are_let_in
