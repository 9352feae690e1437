use Rattle.std.proofs.Common.{◌≡◌, ℕ, Err, ap, arith, subst, sym}
use Rattle.lnbd_link.proofs.Parts.{keeps_none, keeps_on}
use Rattle.lnbd_waits.proofs.TurnLemmas.{held_one}
use Rattle.lnbd_dump.specs.declared.asking.Plan.{Plan}
use Rattle.lnbd_dump.specs.Filling.{AreInOrder, FollowEach}
use Rattle.lnbd_dump.proofs.FillLemmas.{ok_of}
use Rattle.lnbd_dump.proofs.MoreLemmas.{batch_done, batch_unfilled, batch_unlearned, batch_unready}
use Rattle.lnbd_dump.proofs.PlanLemmas.{plan_both, plan_known}
use Rattle.lnbd_dump.proofs.StopLemmas.{not_silent, plain_dry}
use Rattle.lnbd_dump.proofs.turning.next_batch.Goals as goal

pub check-requires : goal.check-requires
check-requires g c = held_one c.args.handles.now c.requires.reached.0 c.requires.reached.1

pub clear_log-requires : goal.clear_log-requires
clear_log-requires g c = held_one c.args.handles.now c.requires.reached.0 c.requires.reached.1

pub learn-requires-clause-reached : goal.learn-requires-clause-reached
learn-requires-clause-reached g c = let a = c.clear_log.ensures c.requires.reached.0 c.requires.reached.1 in (a.0, a.1)

pub fill-requires-clause-reached : goal.fill-requires-clause-reached
fill-requires-clause-reached g c =
    let a = c.clear_log.ensures c.requires.reached.0 c.requires.reached.1 in
    let went = c.in_default-learn.ensures.goes a.0 a.1 in
    (went.after, went.at)

pub fill-requires-clause-piece : goal.fill-requires-clause-piece
fill-requires-clause-piece g c = let piece = ap (λ (p : Plan). p.piece) c.learn.ensures.same in (omega (arith, piece, c.requires.block), omega (arith, piece, c.requires.block))

pub await_all-requires-clause-reached : goal.await_all-requires-clause-reached
await_all-requires-clause-reached g c =
    let a = c.clear_log.ensures c.requires.reached.0 c.requires.reached.1 in
    let went = c.in_default-learn.ensures.goes a.0 a.1 in
    let b = c.in_default-fill.ensures.begins went.after went.at in
    (b.0, b.1)

pub returns-in-Err-clause-goes : goal.returns-in-Err-clause-goes
returns-in-Err-clause-goes g c = batch_unready c.args.plan.now c.args.runs.now c.args.reel.now c.args.world.now _ _ c.args.handles.now c.in-Err.stop c.in-Err.ensures.stops

pub returns-in-Err-clause-silent : goal.returns-in-Err-clause-silent
returns-in-Err-clause-silent g c = not_silent (Err c.in-Err.stop) _ c.in-Err.ensures.plain

pub returns-in-Err-clause-dry : goal.returns-in-Err-clause-dry
returns-in-Err-clause-dry g c = plain_dry c.in-Err.stop c.in-Err.ensures.plain

pub returns-in-Err-clause-contents : goal.returns-in-Err-clause-contents
returns-in-Err-clause-contents g c = keeps_none _

pub returns-in-Err-learn-clause-goes : goal.returns-in-Err-learn-clause-goes
returns-in-Err-learn-clause-goes g c =
    batch_unlearned c.args.plan.now c.learn.new.plan c.learn.new.plan c.args.runs.now c.learn.new.runs c.learn.new.runs c.args.reel.now c.args.reel.now c.args.world.now c.learn.new.world c.learn.new.world c.learn.new.world _ _ (g.W.Wires.told c.learn.new.wires) _ _ (g.W.Wires.faults c.learn.new.wires)
    c.args.handles.now c.clear_log.new.handles c.learn.new.handles c.learn.new.handles c.learn.new.handles c.clear_log.ensures c.in-Err-learn.stop c.in-Err-learn.ensures.goes

pub returns-in-Err-learn-clause-same : goal.returns-in-Err-learn-clause-same
returns-in-Err-learn-clause-same g c = plan_known c.args.plan.now c.learn.new.plan c.learn.ensures.same

pub returns-in-Err-fill-clause-goes : goal.returns-in-Err-fill-clause-goes
returns-in-Err-fill-clause-goes g c =
    batch_unfilled c.args.plan.now c.learn.new.plan c.fill.new.plan c.args.runs.now c.learn.new.runs c.fill.new.runs c.args.reel.now c.fill.new.reel c.args.world.now c.learn.new.world c.fill.new.world c.fill.new.world _ _ (g.W.Wires.told c.learn.new.wires) _ _ (g.W.Wires.faults c.learn.new.wires)
    c.args.handles.now c.clear_log.new.handles c.learn.new.handles c.fill.new.handles c.fill.new.handles c.clear_log.ensures c.in_default-learn.ensures.goes c.in-Err-fill.stop c.in-Err-fill.ensures.begins

pub returns-in-Err-fill-clause-same : goal.returns-in-Err-fill-clause-same
returns-in-Err-fill-clause-same g c = plan_both c.args.plan.now c.learn.new.plan c.fill.new.plan c.learn.ensures.same c.fill.ensures.same

pub returns-in-Err-fill-clause-silent : goal.returns-in-Err-fill-clause-silent
returns-in-Err-fill-clause-silent g c = not_silent (Err c.in-Err-fill.stop) _ c.in-Err-fill.ensures.plain

pub returns-in-Err-fill-clause-dry : goal.returns-in-Err-fill-clause-dry
returns-in-Err-fill-clause-dry g c = plain_dry c.in-Err-fill.stop c.in-Err-fill.ensures.plain

pub returns-clause-goes : goal.returns-clause-goes
returns-clause-goes g c =
    batch_done c.args.plan.now c.learn.new.plan c.fill.new.plan c.args.runs.now c.learn.new.runs c.fill.new.runs c.args.reel.now c.fill.new.reel c.args.world.now c.learn.new.world c.fill.new.world c.await_all.new.world _ _ _ _ _ _
    c.args.handles.now c.clear_log.new.handles c.learn.new.handles c.fill.new.handles c.await_all.new.handles c.clear_log.ensures c.in_default-learn.ensures.goes c.in_default-fill.ensures.begins c.await_all.result c.learn.ensures.faults c.await_all.ensures.faults c.await_all.ensures.goes

pub returns-clause-order : goal.returns-clause-order
returns-clause-order g c = ok_of c.await_all.result (AreInOrder c.fill.new.plan.at c.fill.new.runs c.fill.new.plan.known) c.in_default-fill.ensures.order

pub returns-clause-within : goal.returns-clause-within
returns-clause-within g c =
    let known = ap (λ (p : Plan). p.known) c.fill.ensures.same in
    let end = ap (λ (p : Plan). p.end) c.fill.ensures.same in
    ok_of c.await_all.result _ (omega (arith, known, end, c.in_default-learn.ensures.within))

pub returns-clause-follow : goal.returns-clause-follow
returns-clause-follow g c =
    let at : c.learn.new.plan.at ≡ c.args.plan.now.at = ap (λ (p : Plan). p.at) c.learn.ensures.same in
    ok_of c.await_all.result _ (λ from h. c.in_default-fill.ensures.follow from (subst (λ (n : ℕ). FollowEach from c.args.reel.now n) (sym at) h))

pub returns-clause-more : goal.returns-clause-more
returns-clause-more g c = ok_of c.await_all.result _ (c.in_default-fill.ensures.more c.in_default-learn.ensures.more)

pub returns-clause-same : goal.returns-clause-same
returns-clause-same g c = plan_both c.args.plan.now c.learn.new.plan c.fill.new.plan c.learn.ensures.same c.fill.ensures.same

pub returns-clause-contents : goal.returns-clause-contents
returns-clause-contents g c = keeps_on _ _ _ c.learn.ensures.contents c.await_all.ensures.contents
