use Rattle.lnbd_dump.proofs.AskLemmas.{log_cleared}
use Rattle.lnbd_dump.proofs.asking.clear_log.Goals as goal

pub returns : goal.returns
returns c seen at = log_cleared c.args.handles.now c.get_mut.result.now.machine c.clear_log.new.self.machine seen c.get_mut.ensures.value at c.clear_log.ensures.stands
