use Rattle.lnbd_waits.proofs.WaitLemmas.{awaited_is}
use Rattle.lnbd_waits.proofs.waiting.is_awaited.Goals as goal

pub returns : goal.returns
returns g c = awaited_is c.args.handles.now c.get.result.now.machine c.args.awaited c.is_to_come.result c.get.ensures c.is_to_come.ensures
