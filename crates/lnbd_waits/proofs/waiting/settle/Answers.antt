use Rattle.std.proofs.Common.{ap, arith, is_some}
use Rattle.lnbd_link.proofs.Parts.{keeps_none, keeps_on}
use Rattle.lnbd_waits.proofs.TurnLemmas.{held_one}
use Rattle.lnbd_waits.proofs.WaitLemmas.{some_moved, waiting_done, waiting_none, waiting_on, waiting_short, waiting_silent, waiting_still}
use Rattle.lnbd_waits.proofs.SpendLemmas.{budget_of, handle_spends}
use Rattle.lnbd_waits.proofs.waiting.settle.Goals as goal

pub turns-init : goal.turns-init
turns-init g c = record { waiting = λ seen at. waiting_none g.K.Caller.steps _ _ _ _ seen _ at; contents = keeps_none _; faults_later = omega arith; idles_later = omega arith }

pub is_awaited-requires : goal.is_awaited-requires
is_awaited-requires g c = let w = c.turns.invariant.waiting c.requires.reached.0 c.requires.reached.1 in held_one c.turns.handles w.now w.at

pub turns-preserved-in-Ok-Moved : goal.turns-preserved-in-Ok-Moved
turns-preserved-in-Ok-Moved g c = record {
  waiting = λ seen at. waiting_on g.K.Caller.steps _ _ _ _ _ _ _ _ _ seen _ _ _ c.in-Ok-Moved.field-0 c.in-Ok-Moved.field-0-0 c.is_awaited.result c.in-Ok-Moved.field-0-is c.turns-test.true c.turns.invariant.faults_later c.turn.ensures.faults c.is_awaited.ensures
      (c.turns.invariant.waiting seen at) c.in-Ok-Moved.ensures.ok;
  contents = keeps_on _ _ _ c.turns.invariant.contents c.turn.ensures.contents;
  faults_later = omega (arith, c.turns.invariant.faults_later, c.turn.ensures.faults);
  idles_later = omega (arith, c.turns.invariant.idles_later, c.turn.ensures.idles);
}

pub turns-smaller-in-Ok-Moved : goal.turns-smaller-in-Ok-Moved
turns-smaller-in-Ok-Moved g c =
    let w = c.turns.invariant.waiting c.requires.reached.0 c.requires.reached.1 in
    let went = c.in-Ok-Moved.ensures.ok w.now w.at in
    let part = went.leads.2 in
    let some = some_moved part.moved c.in-Ok-Moved.field-0 c.in-Ok-Moved.field-0-0 c.in-Ok-Moved.field-0-is part.tells in
    let spent = handle_spends g.K.Caller.steps went.leads.0 _ _ w.now went.after went.calls _ _ part.moved went.leads.1 w.at went.at part.turns in
    omega (arith, spent.1 (ap is_some some.1), c.turn.ensures.idles)

pub returns-then-is_long-clause-waits : goal.returns-then-is_long-clause-waits
returns-then-is_long-clause-waits g c seen at =
    waiting_silent g.K.Caller.steps _ _ _ _ _ _ _ _ _ _ _ seen _ _ _ c.in-Ok-Still.field-0 c.is_awaited.result c.in-Ok-Still.field-0-is c.turns-test.true c.turns.invariant.faults_later c.turn.ensures.faults c.pause.ensures.faults c.is_awaited.ensures
    (c.turns.invariant.waiting seen at) c.in-Ok-Still.ensures.ok c.pause.ensures.told c.pause.ensures.wants _ c.pause.ensures.unchanged

pub turns-preserved : goal.turns-preserved
turns-preserved g c = record {
  waiting = λ seen at. waiting_still g.K.Caller.steps _ _ _ _ _ _ _ _ _ _ _ seen _ _ _ c.in-Ok-Still.field-0 c.is_awaited.result c.in-Ok-Still.field-0-is c.turns-test.true c.turns.invariant.faults_later c.turn.ensures.faults c.pause.ensures.faults c.is_awaited.ensures
      (c.turns.invariant.waiting seen at) c.in-Ok-Still.ensures.ok c.pause.ensures.told c.pause.ensures.wants _ c.pause.ensures.unchanged;
  contents = keeps_on _ _ _ c.turns.invariant.contents (keeps_on _ _ _ c.turn.ensures.contents c.pause.ensures.contents);
  faults_later = omega (arith, c.turns.invariant.faults_later, c.turn.ensures.faults, c.pause.ensures.faults);
  idles_later = omega (arith, c.turns.invariant.idles_later, c.turn.ensures.idles, c.pause.ensures.idles, c.idles.ensures, c.is_long.ensures.open c.if-is_long.false);
}

pub turns-smaller : goal.turns-smaller
turns-smaller g c =
    let w = c.turns.invariant.waiting c.requires.reached.0 c.requires.reached.1 in
    let went = c.in-Ok-Still.ensures.ok w.now w.at in
    let part = went.leads.2 in
    let spent = handle_spends g.K.Caller.steps went.leads.0 _ _ w.now went.after went.calls _ _ part.moved went.leads.1 w.at went.at part.turns in
    let same = ap budget_of c.pause.ensures.unchanged in
    omega (arith, spent.0, same, c.pause.ensures.idles, c.turn.ensures.idles, c.turns.invariant.idles_later, c.requires.started, c.idles.ensures, c.is_long.ensures.within c.if-is_long.false, c.is_long.ensures.open c.if-is_long.false)

pub returns-in-Err-clause-waits : goal.returns-in-Err-clause-waits
returns-in-Err-clause-waits g c seen at =
    waiting_short g.K.Caller.steps _ _ _ _ _ _ _ _ _ seen _ _ _ c.is_awaited.result c.turns-test.true c.turns.invariant.faults_later c.turn.ensures.faults c.is_awaited.ensures (c.turns.invariant.waiting seen at) c.in-Err.ensures.short

pub returns-clause-waits : goal.returns-clause-waits
returns-clause-waits g c seen at = waiting_done g.K.Caller.steps _ _ _ _ _ _ seen _ _ c.is_awaited.result c.turns-test.false c.is_awaited.ensures (c.turns.invariant.waiting seen at)
