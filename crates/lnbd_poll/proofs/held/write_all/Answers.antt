use Rattle.std.proofs.Common.{◌∙◌, arith, sym}
use Rattle.lnbd_link.proofs.Parts.{keeps_none, keeps_on}
use Rattle.lnbd_poll.proofs.TurnLemmas.{writing_ends, writing_none, writing_on}
use Rattle.lnbd_poll.proofs.held.write_all.Goals as goal

pub writing-init : goal.writing-init
writing-init g c = record { writing = λ history stands. writing_none g.K.Caller.steps _ c.args.link _ history _ _ stands; contents = keeps_none _; faults_later = omega arith; idles_later = omega arith }

pub writing-preserved : goal.writing-preserved
writing-preserved g c = record {
  writing = λ history stands. writing_on g.K.Caller.steps _ _ _ c.args.link _ _ _ c.writing.turn c.turn.result c.and-turn.result history _ _ _ _ _ c.write_once-noticed.result (c.writing.invariant.writing history stands) c.and-turn.ensures c.turn.ensures c.write_once-noticed.ensures.writes c.writing.invariant.faults_later c.write_once-noticed.ensures.faults (sym c.is_moved.ensures ∙ c.if-not-is_moved.false);
  contents = keeps_on _ _ _ c.writing.invariant.contents c.write_once-noticed.ensures.contents;
  faults_later = omega (arith, c.writing.invariant.faults_later, c.write_once-noticed.ensures.faults);
  idles_later = omega (arith, c.writing.invariant.idles_later, c.write_once-noticed.ensures.idles);
}

pub returns-then-not-is_moved-clause-writes : goal.returns-then-not-is_moved-clause-writes
returns-then-not-is_moved-clause-writes g c history stands = writing_ends g.K.Caller.steps _ _ _ c.args.link _ _ _ c.writing.turn c.turn.result c.and-turn.result history _ _ _ _ _ c.write_once-noticed.result (c.writing.invariant.writing history stands) c.and-turn.ensures c.turn.ensures c.write_once-noticed.ensures.writes c.writing.invariant.faults_later c.write_once-noticed.ensures.faults (sym c.is_moved.ensures ∙ c.if-not-is_moved.true)
