use Rattle.std.proofs.Common.{ap, arith, subst, sym}
use Rattle.std.proofs.Common.{ℕ}
use Rattle.lnbd_dump.specs.declared.asking.Plan.{Plan}
use Rattle.lnbd_dump.specs.Filling.{AreInOrder, IsLeft}
use Rattle.lnbd_dump.proofs.FillLemmas.{begin_continues, begin_well, follow_more, order_left}
use Rattle.lnbd_dump.proofs.filling.begin.Goals as goal

pub returns-in-Err-clause-begins : goal.returns-in-Err-clause-begins
returns-in-Err-clause-begins c seen at = let a = c.in-Err.ensures.begins seen at in (a.0, a.1, a.2, (a.3.0, λ info from u. (a.3.1 info u.course.well, tt)))

pub returns-in-Err-push-clause-begins : goal.returns-in-Err-push-clause-begins
returns-in-Err-push-clause-begins c seen at =
    let a = c.in-Ok.ensures.begins seen at in
    (a.0, a.1, a.2, (tt, λ info from u. (begin_well c.args.plan.now c.args.run c.args.runs.now c.args.reel.now c.in-Ok.part c.args.world.now seen.history a.0.history c.requires.run c.in-Ok.ensures.within.0 c.in-Ok.ensures.within.1 a.3.2 info from u, tt)))

pub returns-clause-begins : goal.returns-clause-begins
returns-clause-begins c seen at =
    let a = c.in-Ok.ensures.begins seen at in (
      a.0,
      a.1,
      a.2,
      (
        tt,
        begin_continues c.args.plan.now c.args.run c.args.runs.now c.args.reel.now c.in-Ok.part c.args.world.now seen.history a.0.history c.requires.run c.in-Ok.ensures.within.0 c.in-Ok.ensures.within.1 a.3.2
            c.advance.new.plan c.advance.new.runs c.push.new.self c.part_of.new.world c.advance.ensures.plan (subst (λ (n : ℕ). IsLeft c.args.run c.args.runs.now n c.advance.new.runs) (ap (λ (p : Plan). p.at) c.advance.ensures.plan) c.advance.ensures.left) c.in_default.ensures c.in-Ok.ensures.world,
      ),
    )

pub returns-clause-order : goal.returns-clause-order
returns-clause-order c =
    let at = ap (λ (p : Plan). p.at) c.advance.ensures.plan in
    subst (λ (n : ℕ). AreInOrder c.advance.new.plan.at c.advance.new.runs n) (sym (ap (λ (p : Plan). p.known) c.advance.ensures.plan))
    (order_left (λ p. Unit {0}) c.args.plan.now.at c.advance.new.plan.at c.args.runs.now c.advance.new.runs c.args.plan.now.known c.args.run c.requires.run (omega (arith, at)) c.advance.ensures.left c.requires.order)

pub returns-clause-follow : goal.returns-clause-follow
returns-clause-follow c from h = follow_more from c.args.reel.now c.push.new.self c.args.plan.now.at c.advance.new.plan.at c.in-Ok.part c.in-Ok.ensures.start c.in-Ok.ensures.within.0 (ap (λ (p : Plan). p.at) c.advance.ensures.plan) c.in_default.ensures h
