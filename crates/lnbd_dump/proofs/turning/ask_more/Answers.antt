use Rattle.std.proofs.Common.{Err, arith, refl, true, false}
use Rattle.lnbd_link.proofs.Parts.{keeps_none}
use Rattle.lnbd_waits.specs.declared.waiting.Halt.TheVariants as halt
use Rattle.lnbd_waits.proofs.TurnLemmas.{held_one}
use Rattle.lnbd_dump.specs.declared.stop.Stop.TheVariants as stop
use Rattle.lnbd_dump.specs.Heard.{IsZeroIn, kept}
use Rattle.lnbd_dump.specs.Stops.{IsStop}
use Rattle.lnbd_dump.proofs.FillLemmas.{order_of}
use Rattle.lnbd_dump.proofs.MoreLemmas.{more_failed, more_lost, more_told, more_unasked, more_unawaited, waits_from}
use Rattle.lnbd_dump.proofs.StopLemmas.{not_silent, plain_dry}
use Rattle.lnbd_dump.proofs.turning.ask_more.Goals as goal

pub ask_status-requires-clause-one : goal.ask_status-requires-clause-one
ask_status-requires-clause-one g c = held_one c.args.handles.now c.requires.reached.0 c.requires.reached.1

pub await_all-requires-clause-reached : goal.await_all-requires-clause-reached
await_all-requires-clause-reached g c = let a = c.in-Ok.ensures.asks c.requires.reached.0 c.requires.reached.1 in (a.0, a.1)

pub take_result-requires : goal.take_result-requires
take_result-requires g c =
    let a = c.in-Ok.ensures.asks c.requires.reached.0 c.requires.reached.1 in
    let went = c.in_default.ensures.goes a.0 a.1 in
    held_one c.await_all.new.handles went.after went.at

pub returns-in-Err-clause-goes : goal.returns-in-Err-clause-goes
returns-in-Err-clause-goes g c = more_unasked c.args.plan.now c.args.plan.now c.args.runs.now c.args.runs.now c.args.world.now c.ask_status.new.world _ _ c.args.handles.now c.ask_status.new.handles c.in-Err.stop c.in-Err.ensures.asks

pub returns-in-Err-clause-silent : goal.returns-in-Err-clause-silent
returns-in-Err-clause-silent g c = not_silent (Err c.in-Err.stop) _ c.in-Err.ensures.plain

pub returns-in-Err-clause-dry : goal.returns-in-Err-clause-dry
returns-in-Err-clause-dry g c = plain_dry c.in-Err.stop c.in-Err.ensures.plain

pub returns-in-Err-clause-contents : goal.returns-in-Err-clause-contents
returns-in-Err-clause-contents g c = keeps_none _

pub returns-in-Err-await_all-clause-goes : goal.returns-in-Err-await_all-clause-goes
returns-in-Err-await_all-clause-goes g c =
    more_unawaited c.args.plan.now c.args.plan.now c.args.runs.now c.args.runs.now c.args.world.now c.await_all.new.world _ _ _ _ c.args.handles.now c.ask_status.new.handles c.await_all.new.handles c.await_all.new.handles c.in-Ok.cookie c.min-size.result
    (omega (arith, c.min-size.ensures)) c.in-Ok.ensures.asks c.in-Err-await_all.stop
    (waits_from true _ _ _ _ c.ask_status.new.handles c.await_all.new.handles (λ t. IsStop t.history c.in-Err-await_all.stop) c.ask_status.new.world c.args.world.now c.await_all.new.world c.in-Ok.ensures.world c.in-Err-await_all.ensures.goes)

pub returns-in-Err-take_result-clause-goes : goal.returns-in-Err-take_result-clause-goes
returns-in-Err-take_result-clause-goes g c =
    more_failed c.args.plan.now c.args.plan.now c.args.runs.now c.args.runs.now c.args.world.now c.await_all.new.world _ _ _ _ c.args.handles.now c.ask_status.new.handles c.await_all.new.handles c.take_result.new.handles c.in-Ok.cookie c.min-size.result
    (omega (arith, c.min-size.ensures)) c.in-Ok.ensures.asks
    (waits_from false _ _ _ _ c.ask_status.new.handles c.await_all.new.handles (λ t. Unit {0}) c.ask_status.new.world c.args.world.now c.await_all.new.world c.in-Ok.ensures.world c.in_default.ensures.goes)
    c.in-Err-take_result.stop c.in-Err-take_result.ensures.takes

pub returns-in-Err-take_result-clause-silent : goal.returns-in-Err-take_result-clause-silent
returns-in-Err-take_result-clause-silent g c = not_silent (Err c.in-Err-take_result.stop) _ c.in-Err-take_result.ensures.plain

pub returns-in-Err-take_result-clause-dry : goal.returns-in-Err-take_result-clause-dry
returns-in-Err-take_result-clause-dry g c = plain_dry c.in-Err-take_result.stop c.in-Err-take_result.ensures.plain

pub returns-then-world-clause-goes : goal.returns-then-world-clause-goes
returns-then-world-clause-goes g c =
    more_lost c.args.plan.now c.args.plan.now c.args.runs.now c.args.runs.now c.args.world.now c.await_all.new.world _ _ _ _ c.args.handles.now c.ask_status.new.handles c.await_all.new.handles c.take_result.new.handles c.in-Ok.cookie c.min-size.result
    (omega (arith, c.min-size.ensures)) c.in-Ok.ensures.asks
    (waits_from false _ _ _ _ c.ask_status.new.handles c.await_all.new.handles (λ t. Unit {0}) c.ask_status.new.world c.args.world.now c.await_all.new.world c.in-Ok.ensures.world c.in_default.ensures.goes)
    c.in-Ok-take_result.bytes c.in-Ok-take_result.ensures.takes (stop.Halted halt.NoMemory) (λ h. tt)

pub returns-clause-goes : goal.returns-clause-goes
returns-clause-goes g c =
    more_lost c.args.plan.now c.args.plan.now c.args.runs.now c.hear.new.runs c.args.world.now c.await_all.new.world _ _ _ _ c.args.handles.now c.ask_status.new.handles c.await_all.new.handles c.take_result.new.handles c.in-Ok.cookie c.min-size.result
    (omega (arith, c.min-size.ensures)) c.in-Ok.ensures.asks
    (waits_from false _ _ _ _ c.ask_status.new.handles c.await_all.new.handles (λ t. Unit {0}) c.ask_status.new.world c.args.world.now c.await_all.new.world c.in-Ok.ensures.world c.in_default.ensures.goes)
    c.in-Ok-take_result.bytes c.in-Ok-take_result.ensures.takes (stop.Halted halt.NoMemory) (λ h. tt)

pub returns-in-Ok-hear-clause-goes : goal.returns-in-Ok-hear-clause-goes
returns-in-Ok-hear-clause-goes g c =
    more_told c.args.plan.now _ c.args.runs.now c.hear.new.runs c.args.world.now c.await_all.new.world _ _ _ _ c.args.handles.now c.ask_status.new.handles c.await_all.new.handles c.take_result.new.handles c.in-Ok.cookie c.min-size.result
    (omega (arith, c.min-size.ensures)) c.in-Ok.ensures.asks
    (waits_from false _ _ _ _ c.ask_status.new.handles c.await_all.new.handles (λ t. Unit {0}) c.ask_status.new.world c.args.world.now c.await_all.new.world c.in-Ok.ensures.world c.in_default.ensures.goes)
    c.in-Ok-take_result.bytes c.in-Ok-take_result.ensures.takes c.in-Ok-hear.known c.requires.none c.requires.some.0 c.if-world.false refl
    c.in-Ok-hear.ensures.within.0 c.in-Ok-hear.ensures.within.1 c.in-Ok-hear.ensures.runs c.in-Ok-hear.ensures.spared c.in-Ok-hear.ensures.beyond

pub returns-in-Ok-hear-clause-order : goal.returns-in-Ok-hear-clause-order
returns-in-Ok-hear-clause-order g c = order_of (IsZeroIn (kept c.await_all.new.world) c.args.plan.now.at) c.args.plan.now.at c.hear.new.runs c.in-Ok-hear.known c.in-Ok-hear.ensures.runs
