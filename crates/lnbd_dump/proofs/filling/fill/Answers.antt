use Rattle.std.proofs.Common.{◌∙◌, [], ap, arith, refl, sym, Ok, false}
use Rattle.lnbd_waits.proofs.TurnLemmas.{held_one}
use Rattle.lnbd_dump.specs.declared.asking.Plan.{Plan}
use Rattle.lnbd_dump.specs.Filling.{Continues}
use Rattle.lnbd_reel.proofs.LaidLemmas.{first_run}
use Rattle.lnbd_dump.proofs.FillLemmas.{begun_some}
use Rattle.lnbd_dump.proofs.LeadLemmas.{acts_on, leads_none, leads_on}
use Rattle.lnbd_dump.proofs.PlanLemmas.{plan_on}
use Rattle.lnbd_dump.proofs.filling.fill.Goals as goal

pub ahead-init : goal.ahead-init
ahead-init c = record {
  reached = c.requires.reached;
  begins = λ seen at. (seen, at, leads_none false seen, λ info from u. (u.course.well, u));
  order = c.requires.order;
  follow = λ from h. h;
  same = refl;
  some = λ l. absurd (omega (arith, l));
  none = λ e. refl;
}

pub begin-requires-clause-one : goal.begin-requires-clause-one
begin-requires-clause-one c = held_one c.ahead.handles c.ahead.invariant.reached.0 c.ahead.invariant.reached.1

pub begin-requires-clause-some : goal.begin-requires-clause-some
begin-requires-clause-some c =
    let first = first_run (λ p. Unit {0}) c.ahead.plan.at c.ahead.runs c.ahead.plan.known c.in-Some.first (sym c.first.ensures ∙ c.in-Some.is) c.ahead.invariant.order in
    let piece = ap (λ (p : Plan). p.piece) c.ahead.invariant.same in
    (first.0, first.1, omega (arith, piece, c.requires.piece), omega (arith, piece, c.requires.piece))

pub ahead-preserved : goal.ahead-preserved
ahead-preserved c = record {
  reached = (let a = c.in_default.ensures.begins c.ahead.invariant.reached.0 c.ahead.invariant.reached.1 in (a.0, a.1));
  begins = acts_on (λ s t. Continues {A = Unit {0}} (Ok tt) c.args.plan.now c.args.runs.now c.args.reel.now c.args.world.now s.history c.ahead.plan c.ahead.runs c.ahead.reel c.ahead.world t.history) _
      (λ s t. Continues {A = Unit {0}} (Ok tt) c.args.plan.now c.args.runs.now c.args.reel.now c.args.world.now s.history c.begin.new.plan c.begin.new.runs c.begin.new.reel c.begin.new.world t.history)
      (λ x y z is next info from u. next.1 info from (is info from u).1) c.args.handles.now c.ahead.handles c.begin.new.handles c.ahead.invariant.begins c.in_default.ensures.begins;
  order = c.in_default.ensures.order;
  follow = λ from h. c.in_default.ensures.follow from (c.ahead.invariant.follow from h);
  same = plan_on c.args.plan.now c.ahead.plan c.begin.new.plan c.ahead.invariant.same c.begin.ensures.same;
  some = λ l. c.in_default.ensures.more;
  none = λ e. absurd (omega (arith, e));
}

pub returns-in-None-clause-begins : goal.returns-in-None-clause-begins
returns-in-None-clause-begins c seen at = let a = c.ahead.invariant.begins seen at in (a.0, a.1, a.2, (tt, a.3))

pub returns-in-None-clause-more : goal.returns-in-None-clause-more
returns-in-None-clause-more c = begun_some c.ahead._i c.ahead.runs c.args.runs.now c.ahead.reel (sym c.first.ensures ∙ c.in-None.is) c.ahead.invariant.some c.ahead.invariant.none

pub returns-in-Err-clause-begins : goal.returns-in-Err-clause-begins
returns-in-Err-clause-begins c seen at =
    let a = c.ahead.invariant.begins seen at in
    let b = c.in-Err.ensures.begins a.0 a.1 in
    (b.0, b.1, leads_on false seen a.0 a.0 b.0 b.0 [] [] a.2 b.2, (b.3.0, λ info from u. b.3.1 info from (a.3 info from u).1))

pub returns-in-Err-clause-same : goal.returns-in-Err-clause-same
returns-in-Err-clause-same c = plan_on c.args.plan.now c.ahead.plan c.begin.new.plan c.ahead.invariant.same c.begin.ensures.same

pub returns-clause-begins : goal.returns-clause-begins
returns-clause-begins c seen at = let a = c.ahead.invariant.begins seen at in (a.0, a.1, a.2, (tt, a.3))

pub returns-clause-more : goal.returns-clause-more
returns-clause-more c = λ long. c.ahead.invariant.some (omega arith)
