use Rattle.std.proofs.Common.{Err, Ok, arith, true, false}
use Rattle.lnbd_link.proofs.Parts.{keeps_none}
use Rattle.lnbd_dump.specs.Stops.{IsStop}
use Rattle.lnbd_dump.specs.Talks.{ShowsSpan}
use Rattle.lnbd_dump.proofs.ReadLemmas.{begins_order, comes_none, is_plan_of, span_broken, span_none, span_shown, span_stops}
use Rattle.lnbd_dump.proofs.StopLemmas.{not_output, not_silent}
use Rattle.lnbd_dump.proofs.talking.show_span.Goals as goal

pub returns-then-span-eq0-clause-shows : goal.returns-then-span-eq0-clause-shows
returns-then-span-eq0-clause-shows g c =
    comes_none false _ _ c.args.handles.now
    (λ s t e. Unit {0} × ShowsSpan (Ok 0) c.args.terms c.args.world.now c.args.offset c.args.span.count (g.O.Sink.taken c.args.out.now) (g.O.Sink.taken c.args.out.now) s.history t.history e.history)
    (λ seen at. (tt, span_none c.args.terms c.args.world.now c.args.offset c.args.span.count (g.O.Sink.taken c.args.out.now) seen.history c.if-span-eq0.true))

pub runs_of-requires : goal.runs_of-requires
runs_of-requires g c =
    let covers = c.requires.covers (omega (arith, c.if-span-eq0.false)) in
    (is_plan_of c.args.terms c.args.span c.plan_of-plan.result c.plan_of-plan.ensures covers.order).low

pub returns-in-Err-clause-shows : goal.returns-in-Err-clause-shows
returns-in-Err-clause-shows g c =
    comes_none true _ _ c.args.handles.now
    (λ s t e. IsStop t.history c.in-Err.stop × ShowsSpan (Err c.in-Err.stop) c.args.terms c.args.world.now c.args.offset c.args.span.count (g.O.Sink.taken c.args.out.now) (g.O.Sink.taken c.args.out.now) s.history t.history e.history)
    (λ seen at. (c.in-Err.ensures.stops seen.history, span_stops c.in-Err.stop c.args.terms c.args.world.now c.args.offset c.args.span.count (g.O.Sink.taken c.args.out.now) seen.history))

pub returns-in-Err-clause-silent : goal.returns-in-Err-clause-silent
returns-in-Err-clause-silent g c = not_silent (Err c.in-Err.stop) _ c.in-Err.ensures.plain

pub returns-in-Err-clause-output : goal.returns-in-Err-clause-output
returns-in-Err-clause-output g c = not_output (Err c.in-Err.stop) _ c.in-Err.ensures.plain

pub returns-in-Err-clause-contents : goal.returns-in-Err-clause-contents
returns-in-Err-clause-contents g c = keeps_none _

pub show-requires-clause-begins : goal.show-requires-clause-begins
show-requires-clause-begins g c =
    let covers = c.requires.covers (omega (arith, c.if-span-eq0.false)) in
    let plan = is_plan_of c.args.terms c.args.span c.plan_of-plan.result c.plan_of-plan.ensures covers.order in
    omega (arith, plan.at, covers.begins)

pub show-requires-clause-ends : goal.show-requires-clause-ends
show-requires-clause-ends g c =
    let covers = c.requires.covers (omega (arith, c.if-span-eq0.false)) in
    let plan = is_plan_of c.args.terms c.args.span c.plan_of-plan.result c.plan_of-plan.ensures covers.order in
    (omega (arith, plan.end, covers.ends), omega (arith, plan.end, covers.within, c.requires.size))

pub show-requires-clause-order : goal.show-requires-clause-order
show-requires-clause-order g c = begins_order c.plan_of-plan.result c.in-Ok.runs c.in-Ok.ensures.begins

pub show-requires-clause-some : goal.show-requires-clause-some
show-requires-clause-some g c =
    let covers = c.requires.covers (omega (arith, c.if-span-eq0.false)) in
    let plan = is_plan_of c.args.terms c.args.span c.plan_of-plan.result c.plan_of-plan.ensures covers.order in
    (omega (arith, plan.low, plan.high), plan.high)

pub show-requires-clause-block : goal.show-requires-clause-block
show-requires-clause-block g c =
    let covers = c.requires.covers (omega (arith, c.if-span-eq0.false)) in
    let plan = is_plan_of c.args.terms c.args.span c.plan_of-plan.result c.plan_of-plan.ensures covers.order in
    (omega (arith, plan.block, c.requires.block), omega (arith, plan.block, c.requires.block), omega (arith, plan.piece, c.requires.block), omega (arith, plan.piece, c.requires.block))

pub returns-in-Ok-show-clause-shows : goal.returns-in-Ok-show-clause-shows
returns-in-Ok-show-clause-shows g c =
    span_shown c.args.terms c.args.span c.plan_of-plan.result c.in-Ok.runs c.args.world.now c.args.offset (g.O.Sink.taken c.args.out.now) (g.O.Sink.taken c.show.new.out) tt c.plan_of-plan.ensures c.in-Ok.ensures.begins false _ _ _ _ c.args.handles.now c.show.new.handles c.in-Ok-show.ensures.shows

pub returns-in-Err-show-clause-shows : goal.returns-in-Err-show-clause-shows
returns-in-Err-show-clause-shows g c =
    span_broken c.args.terms c.args.span c.plan_of-plan.result c.in-Ok.runs c.args.world.now c.args.offset (g.O.Sink.taken c.args.out.now) (g.O.Sink.taken c.show.new.out) c.in-Err-show.stop c.plan_of-plan.ensures c.in-Ok.ensures.begins true _ _ _ _ c.args.handles.now c.show.new.handles
    c.in-Err-show.ensures.shows
