use Rattle.std.proofs.Common.{◌∙◌}
use Rattle.lnbd_copy.proofs.HandleLemmas.{length_with}
use Rattle.lnbd_copy.proofs.LinkLemmas.{same_then, same_with}
use Rattle.lnbd_connections.proofs.StepLemmas.{parts_or_not, parts_then}
use Rattle.lnbd_connections.proofs.parting.part.Goals as goal

pub handles-preserved : goal.handles-preserved
handles-preserved c = record {
  count = length_with c.handles.handles c.handles.index c.aio_disconnect.new.self.machine ∙ c.handles.invariant.count;
  links = same_then _ _ _ c.handles.invariant.links (same_with c.handles.handles c.handles.index c.aio_disconnect.new.self.machine);
  parts = λ now. parts_then now _ _ _ (c.handles.invariant.parts now)
      (parts_or_not now c.handles.index c.handles.handles _ c.aio_disconnect.new.self.machine c.aio_disconnect.result c.get_mut.ensures.value c.aio_disconnect.ensures.stands);
}
