use Rattle.lnbd_memnet.proofs.Telling.{told_added, contents_kept}
use Rattle.lnbd_memnet.proofs.Rules.{shut_fails}
use Rattle.lnbd_memnet.proofs.wires.ServedWiresWires.read.Goals as goal

pub returns-clause-told : goal.returns-clause-told
returns-clause-told c = told_added c.args.self.now c.read_from.new.self _ c.read_from.ensures.step

pub returns-clause-contents : goal.returns-clause-contents
returns-clause-contents c = contents_kept c.args.self.now c.read_from.new.self _ c.read_from.ensures.step

pub returns-clause-opened : goal.returns-clause-opened
returns-clause-opened c = shut_fails c.args.self.now c.args.link _ c.came.ensures c.read_from.ensures.shut
