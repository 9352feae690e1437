use Rattle.lnbd_memnet.proofs.Telling.{told_added, contents_kept}
use Rattle.lnbd_memnet.proofs.Rules.{fresh_connect}
use Rattle.lnbd_memnet.proofs.wires.ServedWiresWires.connect.Goals as goal

pub returns-clause-told : goal.returns-clause-told
returns-clause-told c = told_added c.args.self.now c.connect_to.new.self _ c.connect_to.ensures.step

pub returns-clause-contents : goal.returns-clause-contents
returns-clause-contents c = contents_kept c.args.self.now c.connect_to.new.self _ c.connect_to.ensures.step

pub returns-clause-fresh : goal.returns-clause-fresh
returns-clause-fresh c = fresh_connect c.args.self.now c.connect_to.new.self _ c.connect_to.result c.came.ensures c.connect_to.ensures.step c.connect_to.ensures.same
