use Rattle.std.proofs.Common.{arith, refl, ◌∙◌}
use Rattle.lnbd_callbacks.specs.Steps.{OneByOne}
use Rattle.lnbd_poll.proofs.TurnLemmas.{passing_breaks, passing_cut, passing_end, passing_none, passing_on, passing_short, short_cut}
use Rattle.lnbd_board.specs.Files.{Files}
use Rattle.lnbd_copy.proofs.CauseLemmas.{goes_same, goes_then}
use Rattle.lnbd_copy.proofs.DecidingLemmas.{alive_more, part_decides}
use Rattle.lnbd_copy.proofs.GroundLemmas.{handed_on, on_err_so}
use Rattle.lnbd_copy.proofs.turning.turn.Goals as goal

pub handles-init : goal.handles-init
handles-init g c = record {
  passing = λ seen at. passing_none (OneByOne Files) _ _ seen _ _ at;
  count = refl;
  calm = c.requires.calm;
  counts = goes_same _ _ _;
}

pub handles-preserved : goal.handles-preserved
handles-preserved g c = record {
  passing = λ seen at. passing_on (OneByOne Files) _ _ _ _ _ _ c.handles.turn seen _ _ _ _ _ c.handles.index (c.handles.invariant.passing seen at) c.handles.invariant.counts.faults c.take_part.ensures.faults c.in_ok-part.part c.and-turn.result c.and-turn.ensures c.in_ok-part.ensures.ok;
  count = c.take_part.ensures.len ∙ c.handles.invariant.count;
  calm = record { alive = alive_more c.handles.index _ _ c.handles.invariant.calm.alive c.take_part.ensures.others c.in_ok-judge.ensures.alive; well = c.in_ok-judge.ensures.well; fit = c.in_ok-judge.ensures.fit };
  counts = goes_then _ _ _ _ _ _ _ _ _ c.handles.invariant.counts (record { faults = c.take_part.ensures.faults; idles = c.take_part.ensures.idles; contents = c.take_part.ensures.contents });
}

pub returns-in_err-part-clause-cut : goal.returns-in_err-part-clause-cut
returns-in_err-part-clause-cut g c = on_err_so c.from_residual.result (λ seen at.
    short_cut (OneByOne Files) _ _ _ _ seen _ _ _
    (passing_short (OneByOne Files) _ _ _ _ _ _ c.handles.turn seen _ _ _ _ _ c.handles.index (c.handles.invariant.passing seen at) c.handles.invariant.counts.faults c.take_part.ensures.faults c.in_err-part.ensures.short))

pub returns-in_err-judge-clause-cut : goal.returns-in_err-judge-clause-cut
returns-in_err-judge-clause-cut g c = on_err_so c.from_residual-in_err-judge.result (λ seen at.
    passing_cut (OneByOne Files) _ _ _ _ _ seen _ _ _ _
    (passing_on (OneByOne Files) _ _ _ _ _ _ c.handles.turn seen _ _ _ _ _ c.handles.index (c.handles.invariant.passing seen at) c.handles.invariant.counts.faults c.take_part.ensures.faults c.in_ok-part.part _ refl c.in_ok-part.ensures.ok))

pub returns-in_err-judge-clause-decides : goal.returns-in_err-judge-clause-decides
returns-in_err-judge-clause-decides g c =
    handed_on _ c.from_residual-in_err-judge.result _ c.from_residual-in_err-judge.ensures.1 (
    part_decides _ _ _ _ _ _ _ _ c.in_ok-part.part c.handles.index _ _ _ _ _ _ (λ seen at. passing_breaks (OneByOne Files) _ _ _ _ c.handles.turn seen _ _ _ _ (c.handles.invariant.passing seen at)) c.in_ok-part.ensures.ok
    (λ seen at. passing_breaks (OneByOne Files) _ _ _ _ _ seen _ _ _ _
    (passing_on (OneByOne Files) _ _ _ _ _ _ c.handles.turn seen _ _ _ _ _ c.handles.index (c.handles.invariant.passing seen at) c.handles.invariant.counts.faults c.take_part.ensures.faults c.in_ok-part.part _ refl c.in_ok-part.ensures.ok))
    c.requires.calm.well c.handles.invariant.calm _ c.in_err-judge.ensures.reveals c.in_err-judge.ensures.steady (omega (arith, c.requires.counted, c.handles.invariant.counts.faults)) c.take_part.ensures.others)

pub returns-clause-ok : goal.returns-clause-ok
returns-clause-ok g c = λ seen at. passing_end (OneByOne Files) _ _ _ _ c.handles.turn seen _ _ _ c.handles.index (omega (arith, c.handles-test.false, c.handles.invariant.count)) (c.handles.invariant.passing seen at)
