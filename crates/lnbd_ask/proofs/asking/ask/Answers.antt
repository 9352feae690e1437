use Rattle.std.proofs.Common.{◌∙◌, ap}
use Rattle.lnbd_waits.specs.declared.waiting.Awaited.TheVariants as awaited
use Rattle.lnbd_ask.specs.declared.survey.Survey.{Survey}
use Rattle.lnbd_ask.specs.Maps.{issued}
use Rattle.lnbd_ask.proofs.AskLemmas.{ask_cut_off, ask_fails, ask_lost, ask_ok, ask_unissued, context_stays}
use Rattle.lnbd_waits.proofs.WaitLemmas.{at_handle}
use Rattle.lnbd_ask.proofs.asking.ask.Goals as goal

pub issue-requires : goal.issue-requires
issue-requires g c = c.requires.reached

pub returns-in-Err-clause-asks : goal.returns-in-Err-clause-asks
returns-in-Err-clause-asks g c = ask_unissued c.args.world.now.context c.args.offset c.args.size _ _ _ c.args.handles.now c.issue.new.handles c.in-Err.ensures.err

pub returns-in-Err-settle-clause-asks : goal.returns-in-Err-settle-clause-asks
returns-in-Err-settle-clause-asks g c =
    ask_cut_off c.args.world.now.context c.args.offset c.args.size _ _ _ _ c.args.handles.now c.issue.new.handles c.settle.new.handles c.issue.new.world c.settle.new.world c.in_default.ensures.ok c.settle.new.world.told.items c.in-Err-settle.halt c.in-Err-settle.ensures.waits

pub returns-then-world-clause-asks : goal.returns-then-world-clause-asks
returns-then-world-clause-asks g c =
    ask_lost c.args.world.now.context c.args.offset c.args.size _ _ _ _ c.args.handles.now c.issue.new.handles c.settle.new.handles c.issue.new.world c.settle.new.world c.in_default.ensures.ok c.settle.result c.in_default-settle.is c.settle.ensures.waits c.settle.new.world.told.items

pub returns-in-None-clause-asks : goal.returns-in-None-clause-asks
returns-in-None-clause-asks g c =
    ask_ok c.args.world.now.context c.args.offset c.args.size _ _ _ _ c.args.handles.now c.issue.new.handles c.settle.new.handles c.issue.new.world c.settle.new.world c.in_default.ensures.ok c.settle.result c.in_default-settle.is c.settle.ensures.waits
    (ap (λ (w : Survey). w.context) c.in_default.ensures.world ∙ c.clear.ensures.context) (ap (λ (w : Survey). w.told.items) c.in_default.ensures.world ∙ c.clear.ensures.told) (ap (λ (w : Survey). w.error) c.in_default.ensures.world ∙ c.clear.ensures.error)
    c.if-world.false c.state.result c.stop_of.result (λ seen at. c.state.ensures.told seen.history (at_handle c.settle.new.handles c.get.result.now.machine seen c.get.ensures at)) c.stop_of.ensures c.in-None.is

pub returns-in-None-clause-context : goal.returns-in-None-clause-context
returns-in-None-clause-context g c =
    context_stays _ _ _ _ c.issue.new.handles c.settle.new.handles c.issue.new.world c.settle.new.world c.settle.result awaited.Answers (issued c.args.offset c.args.size c.requires.reached.0) (c.in_default.ensures.ok c.requires.reached.0 c.requires.reached.1) c.settle.ensures.waits
    ∙ (ap (λ (w : Survey). w.context) c.in_default.ensures.world ∙ c.clear.ensures.context)

pub returns-in-Some-clause-asks : goal.returns-in-Some-clause-asks
returns-in-Some-clause-asks g c =
    ask_fails c.args.world.now.context c.args.offset c.args.size _ _ _ _ c.args.handles.now c.issue.new.handles c.settle.new.handles c.issue.new.world c.settle.new.world c.in_default.ensures.ok c.settle.result c.in_default-settle.is c.settle.ensures.waits
    (ap (λ (w : Survey). w.context) c.in_default.ensures.world ∙ c.clear.ensures.context) (ap (λ (w : Survey). w.told.items) c.in_default.ensures.world ∙ c.clear.ensures.told) (ap (λ (w : Survey). w.error) c.in_default.ensures.world ∙ c.clear.ensures.error)
    c.if-world.false c.state.result c.stop_of.result (λ seen at. c.state.ensures.told seen.history (at_handle c.settle.new.handles c.get.result.now.machine seen c.get.ensures at)) c.stop_of.ensures c.in-Some.stop c.in-Some.is
