use Rattle.lnbd_memnet.proofs.Telling.{told_added, contents_kept}
use Rattle.lnbd_memnet.proofs.wires.ServedWiresWires.listen.Goals as goal

pub returns-clause-told : goal.returns-clause-told
returns-clause-told c = told_added c.args.self.now c.listen_at.new.self _ c.listen_at.ensures.step

pub returns-clause-contents : goal.returns-clause-contents
returns-clause-contents c = contents_kept c.args.self.now c.listen_at.new.self _ c.listen_at.ensures.step
