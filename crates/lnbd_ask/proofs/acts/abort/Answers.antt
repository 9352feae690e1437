use Rattle.lnbd_ask.proofs.ActLemmas.{aborted}
use Rattle.lnbd_ask.proofs.acts.abort.Goals as goal

pub returns : goal.returns
returns g c seen at = aborted c.args.handles.now c.get_mut.result.now.machine c.opt_abort.new.self.machine c.opt_abort.result seen c.get_mut.ensures.value at c.opt_abort.ensures.allowed c.opt_abort.ensures.refused c.opt_abort.ensures.stands
