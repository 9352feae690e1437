use Rattle.std.proofs.Common.{None, arith, refl}
use Rattle.lnbd_reel.proofs.ReelLemmas.{runs_up}
use Rattle.lnbd_dump.proofs.NextLemmas.{follows_in, next_begun, next_stops, next_there, none_left, not_none}
use Rattle.lnbd_dump.proofs.showing.next_part.Goals as goal

pub returns-then-len-ne0-clause-goes : goal.returns-then-len-ne0-clause-goes
returns-then-len-ne0-clause-goes g c = next_there c.args.plan.now c.args.runs.now c.args.reel.now c.take.new.self c.args.world.now _ _ c.args.handles.now c.take.result c.take.ensures.parts

pub returns-then-plan-clause-goes : goal.returns-then-plan-clause-goes
returns-then-plan-clause-goes g c = next_there c.args.plan.now c.args.runs.now c.args.reel.now c.args.reel.now c.args.world.now _ _ c.args.handles.now None refl

pub returns-then-plan-clause-none : goal.returns-then-plan-clause-none
returns-then-plan-clause-none g c = (none_left c.args.reel.now (omega (arith, c.len.ensures, c.if-len-ne0.false)), omega (arith, c.requires.some))

pub returns-in-Ok-clause-goes : goal.returns-in-Ok-clause-goes
returns-in-Ok-clause-goes g c =
    next_begun c.args.plan.now c.next_batch.new.plan c.args.runs.now c.next_batch.new.runs c.args.reel.now c.next_batch.new.reel c.take-in-Ok.new.self c.args.world.now c.next_batch.new.world _ _ _ _ c.args.handles.now c.next_batch.new.handles c.take-in-Ok.result c.take-in-Ok.ensures.parts
    c.in-Ok.ensures.goes

pub returns-in-Ok-clause-follow : goal.returns-in-Ok-clause-follow
returns-in-Ok-clause-follow g c from h = follows_in from c.next_batch.new.plan.at c.next_batch.new.reel c.take-in-Ok.new.self c.take-in-Ok.result c.take-in-Ok.ensures.parts (c.in-Ok.ensures.follow from h)

pub returns-in-Ok-clause-none : goal.returns-in-Ok-clause-none
returns-in-Ok-clause-none g c = not_none c.take-in-Ok.result _ _ c.take-in-Ok.ensures.none (λ e. omega (arith, e, c.in-Ok.ensures.more))

pub returns-in-Err-clause-goes : goal.returns-in-Err-clause-goes
returns-in-Err-clause-goes g c =
    next_stops c.args.plan.now c.next_batch.new.plan c.args.runs.now c.next_batch.new.runs c.args.reel.now c.next_batch.new.reel c.args.world.now c.next_batch.new.world _ _ _ _ c.args.handles.now c.next_batch.new.handles c.in-Err.stop c.in-Err.ensures.goes

pub returns-in-Ok-clause-within : goal.returns-in-Ok-clause-within
returns-in-Ok-clause-within g c =
    let up = runs_up (λ p. Unit {0}) c.next_batch.new.plan.at c.next_batch.new.runs c.next_batch.new.plan.known c.in-Ok.ensures.order in
    (omega (arith, up, c.in-Ok.ensures.within), c.in-Ok.ensures.within)
