use Rattle.lnbd_copy.proofs.PartedLemmas.{has_ended, has_written}
use Rattle.lnbd_copy.proofs.parting.has_parted.Goals as goal

pub returns-in-Closing : goal.returns-in-Closing
returns-in-Closing c none = has_written c.get-handle.result.now.machine c.state.result c.state.ensures.told c.args.index c.args.handles.now c.get-handle.ensures c.in-Closing.is c.is_waiting.result c.is_waiting.ensures.told none

pub returns-in-Closed : goal.returns-in-Closed
returns-in-Closed c closed = has_ended c.get-handle.result.now.machine c.state.result c.state.ensures.told c.args.index c.args.handles.now c.get-handle.ensures c.in-Closed.is
