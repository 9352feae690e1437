use Rattle.lnbd_memnet.proofs.Telling.{told_added, contents_kept}
use Rattle.lnbd_memnet.proofs.wires.ServedWiresWires.accept.Goals as goal

pub returns-clause-told : goal.returns-clause-told
returns-clause-told c = told_added c.args.self.now c.accept_on.new.self _ c.accept_on.ensures.step

pub returns-clause-contents : goal.returns-clause-contents
returns-clause-contents c = contents_kept c.args.self.now c.accept_on.new.self _ c.accept_on.ensures.step
