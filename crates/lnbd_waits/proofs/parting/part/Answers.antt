use Rattle.lnbd_waits.proofs.PartLemmas.{parted}
use Rattle.lnbd_waits.proofs.parting.part.Goals as goal

pub returns : goal.returns
returns g c seen at = parted c.args.handles.now c.get_mut.result.now.machine c.aio_disconnect.new.self.machine c.aio_disconnect.result seen c.get_mut.ensures.value at c.aio_disconnect.ensures.allowed c.aio_disconnect.ensures.refused c.aio_disconnect.ensures.stands
