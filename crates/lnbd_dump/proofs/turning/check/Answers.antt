use Rattle.lnbd_waits.proofs.WaitLemmas.{at_handle}
use Rattle.lnbd_dump.proofs.EndAtLemmas.{end_stop}
use Rattle.lnbd_dump.proofs.turning.check.Goals as goal

pub returns-clause-stops : goal.returns-clause-stops
returns-clause-stops c seen at = end_stop c.end_at.result c.state.result seen.history c.end_at.ensures.ends (c.state.ensures.told seen.history (at_handle c.args.handles.now c.get.result.now.machine seen c.get.ensures at))
