use Rattle.std.proofs.Common.{arith, refl}
use Rattle.lnbd_link.proofs.Parts.{keeps_none, keeps_on}
use Rattle.lnbd_poll.specs.Held.{all_held}
use Rattle.lnbd_poll.proofs.HeldLemmas.{held_length}
use Rattle.lnbd_poll.proofs.TurnLemmas.{passing_end, passing_none, passing_on, passing_short}
use Rattle.lnbd_poll.proofs.held.turn_all.Goals as goal

pub handles-init : goal.handles-init
handles-init g c = record { passing = λ seen at. passing_none g.K.Caller.steps _ _ seen _ _ at; count = refl; contents = keeps_none _; faults_later = omega arith; idles_later = omega arith }

pub handles-preserved : goal.handles-preserved
handles-preserved g c = record {
  passing = λ seen at. passing_on g.K.Caller.steps _ _ _ _ _ _ c.handles.turn seen _ _ _ _ _ c.handles.i (c.handles.invariant.passing seen at) c.handles.invariant.faults_later c.take_part.ensures.faults c.in-Ok.part c.and-turn.result c.and-turn.ensures c.in-Ok.ensures.ok;
  count = omega (arith, c.take_part.ensures.len, c.handles.invariant.count);
  contents = keeps_on _ _ _ c.handles.invariant.contents c.take_part.ensures.contents;
  faults_later = omega (arith, c.handles.invariant.faults_later, c.take_part.ensures.faults);
  idles_later = omega (arith, c.handles.invariant.idles_later, c.take_part.ensures.idles);
}

pub returns-in-Err-clause-short : goal.returns-in-Err-clause-short
returns-in-Err-clause-short g c seen at = passing_short g.K.Caller.steps _ _ _ _ _ _ c.handles.turn seen _ _ _ _ _ c.handles.i (c.handles.invariant.passing seen at) c.handles.invariant.faults_later c.take_part.ensures.faults c.in-Err.ensures.short

pub returns-clause-ok : goal.returns-clause-ok
returns-clause-ok g c seen at = passing_end g.K.Caller.steps _ _ _ _ c.handles.turn seen _ _ (all_held c.handles.all.items) c.handles.i (omega (arith, c.handles-test.false, c.handles.invariant.count, c.handles.all.ok.0, held_length c.handles.all.items)) (c.handles.invariant.passing seen at)
