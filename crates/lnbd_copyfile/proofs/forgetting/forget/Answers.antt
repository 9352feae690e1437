use Rattle.std.proofs.Common.{arith, ap, refl, ◌∙◌}
use Rattle.lnbd_board.specs.declared.ticket.Ticket.{Ticket}
use Rattle.lnbd_machine.specs.Machine.{Machine}
use Rattle.lnbd_connections.proofs.StepLemmas.{parts_then}
use Rattle.lnbd_copy.proofs.ForgetLemmas.{keep_more, keep_none}
use Rattle.lnbd_copy.proofs.HandleLemmas.{length_with}
use Rattle.lnbd_copy.proofs.LinkLemmas.{same_then, same_with}
use Rattle.lnbd_copyfile.proofs.ForgettingLemmas.{forgets_one, forgets_one_still, still_then}
use Rattle.lnbd_copyfile.proofs.forgetting.forget.Goals as goal

pub handles-preserved : goal.handles-preserved
handles-preserved c = record {
  count = length_with c.handles.handles c.handles.index c.clear_log.new.self.machine ∙ c.handles.invariant.count;
  links = same_then _ _ _ c.handles.invariant.links (same_with c.handles.handles c.handles.index c.clear_log.new.self.machine);
  parts = λ now. parts_then now _ _ _ (c.handles.invariant.parts now) (forgets_one now c.handles.index c.handles.handles _ c.clear_log.new.self.machine c.clear_log.ensures.stands
      c.get_mut.ensures.value);
  binds = λ now. still_then now _ _ _ (c.handles.invariant.binds now) (forgets_one_still now c.handles.index c.handles.handles _ c.clear_log.new.self.machine c.clear_log.ensures.stands
      c.get_mut.ensures.value);
  first = keep_more c.handles.index _ c.handles.handles c.clear_log.new.self.machine refl (ap (λ (m : Machine Ticket). m.known.notes) c.clear_log.ensures.step) c.handles.invariant.first;
}

pub returns-clause-none : goal.returns-clause-none
returns-clause-none c = keep_none c.handles.index c.handles.handles (omega (arith, c.handles-test.false, c.handles.invariant.count)) c.handles.invariant.first
