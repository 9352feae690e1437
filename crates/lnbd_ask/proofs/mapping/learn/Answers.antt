use Rattle.lnbd_waits.specs.declared.waiting.Awaited.TheVariants as awaited
use Rattle.lnbd_ask.proofs.AskLemmas.{context_stays}
use Rattle.lnbd_ask.proofs.InquireLemmas.{inquired_in}
use Rattle.lnbd_ask.proofs.LearnLemmas.{known_in, learn_breaks, learn_cannot, learn_ends, learn_stops, plan_known}
use Rattle.lnbd_waits.proofs.TurnLemmas.{held_one}
use Rattle.lnbd_ask.proofs.mapping.learn.Goals as goal

pub returns-in-Err-clause-learns : goal.returns-in-Err-clause-learns
returns-in-Err-clause-learns g c = learn_breaks c.args.world.now.context _ _ _ _ _ c.args.handles.now c.settle.new.handles _ _ c.in-Err.halt c.in-Err.ensures.waits

pub known-requires : goal.known-requires
known-requires g c = let went = c.settle.ensures.waits c.requires.reached.0 c.requires.reached.1 in held_one c.settle.new.handles went.after went.at

pub inquire-requires-clause-reached : goal.inquire-requires-clause-reached
inquire-requires-clause-reached g c = let went = c.settle.ensures.waits c.requires.reached.0 c.requires.reached.1 in (went.after, went.at)

pub inquire-requires-clause-fit : goal.inquire-requires-clause-fit
inquire-requires-clause-fit g c = let went = c.settle.ensures.waits c.requires.reached.0 c.requires.reached.1 in plan_known c.settle.new.world.context c.in-Ok.plan went.after (c.in-Ok.ensures went.after went.at)

pub lay_rest-requires-clause-fit : goal.lay_rest-requires-clause-fit
lay_rest-requires-clause-fit g c = let went = c.settle.ensures.waits c.requires.reached.0 c.requires.reached.1 in plan_known c.settle.new.world.context c.in-Ok.plan went.after (c.in-Ok.ensures went.after went.at)

pub returns-in-Ok-inquire-clause-learns : goal.returns-in-Ok-inquire-clause-learns
returns-in-Ok-inquire-clause-learns g c =
    let same = context_stays _ _ _ _ c.args.handles.now c.settle.new.handles c.args.world.now c.settle.new.world c.settle.result awaited.Answers c.requires.reached.0 c.requires.reached.1 c.settle.ensures.waits in
    let went = c.settle.ensures.waits c.requires.reached.0 c.requires.reached.1 in
    learn_ends c.args.world.now.context _ _ _ _ c.args.handles.now c.settle.new.handles c.args.world.now c.settle.new.world c.settle.result c.in_default.is c.settle.ensures.waits
    c.in-Ok.plan (known_in c.args.world.now.context c.settle.new.world.context c.settle.new.handles _ same c.in-Ok.ensures) _ _ c.inquire.new.handles c.settle.ensures.faults c.inquire.ensures.faults
    c.inquire.new.map.items c.lay_rest.new.map.items c.lay_rest.result c.lay_rest.ensures.ok c.lay_rest.ensures.err (plan_known c.settle.new.world.context c.in-Ok.plan went.after (c.in-Ok.ensures went.after went.at)) c.in-Ok-inquire.ensures.spans
    (inquired_in c.args.world.now.context c.settle.new.world.context _ _ _ _ _ _ _ _ _ _ same c.in-Ok-inquire.ensures.asks)

pub returns-in-Err-inquire-clause-learns : goal.returns-in-Err-inquire-clause-learns
returns-in-Err-inquire-clause-learns g c =
    let same = context_stays _ _ _ _ c.args.handles.now c.settle.new.handles c.args.world.now c.settle.new.world c.settle.result awaited.Answers c.requires.reached.0 c.requires.reached.1 c.settle.ensures.waits in
    learn_stops c.args.world.now.context _ _ _ _ c.args.handles.now c.settle.new.handles c.args.world.now c.settle.new.world c.settle.result c.in_default.is c.settle.ensures.waits
    c.in-Ok.plan (known_in c.args.world.now.context c.settle.new.world.context c.settle.new.handles _ same c.in-Ok.ensures) _ _ c.inquire.new.handles c.settle.ensures.faults c.inquire.ensures.faults
    _ c.in-Err-inquire.stop (inquired_in c.args.world.now.context c.settle.new.world.context _ _ _ _ _ _ _ _ _ _ same c.in-Err-inquire.ensures.asks)

pub returns-in-Err-known-clause-learns : goal.returns-in-Err-known-clause-learns
returns-in-Err-known-clause-learns g c =
    let same = context_stays _ _ _ _ c.args.handles.now c.settle.new.handles c.args.world.now c.settle.new.world c.settle.result awaited.Answers c.requires.reached.0 c.requires.reached.1 c.settle.ensures.waits in
    learn_cannot c.args.world.now.context _ _ _ _ c.args.handles.now c.settle.new.handles c.args.world.now c.settle.new.world c.settle.result c.in_default.is c.settle.ensures.waits
    _ c.in-Err-known.stop (known_in c.args.world.now.context c.settle.new.world.context c.settle.new.handles _ same c.in-Err-known.ensures)
