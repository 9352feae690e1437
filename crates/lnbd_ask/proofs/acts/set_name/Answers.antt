use Rattle.lnbd_ask.proofs.ActLemmas.{named}
use Rattle.lnbd_ask.proofs.acts.set_name.Goals as goal

pub returns : goal.returns
returns g c seen at = named c.args.handles.now c.get_mut.result.now.machine c.set_export_name.new.self.machine c.args.name c.set_export_name.result seen c.get_mut.ensures.value at c.set_export_name.ensures.allowed c.set_export_name.ensures.refused c.set_export_name.ensures.stands
