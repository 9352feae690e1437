use Rattle.std.proofs.Common.{arith, ◌∙◌, sym}
use Rattle.lnbd_link.proofs.Parts.{keeps_on}
use Rattle.lnbd_waits.proofs.TurnLemmas.{held_one}
use Rattle.lnbd_waits.proofs.WaitLemmas.{at_handle}
use Rattle.lnbd_waits.specs.Begun.{parting}
use Rattle.lnbd_dump.proofs.TalkEndLemmas.{end_output, end_silent, rises_more, talk_ends, talk_stops}
use Rattle.lnbd_dump.proofs.talking.talk.Goals as goal

pub part-requires : goal.part-requires
part-requires g c =
    let went = c.read-end.ensures.reads c.requires.reached.0 c.requires.reached.1 in
    held_one c.read-end.new.handles went.after went.at

pub settle-written-requires-clause-reached : goal.settle-written-requires-clause-reached
settle-written-requires-clause-reached g c =
    let went = c.read-end.ensures.reads c.requires.reached.0 c.requires.reached.1 in
    (parting went.after, c.part.ensures went.after went.at)

pub get-requires : goal.get-requires
get-requires g c =
    let went = c.read-end.ensures.reads c.requires.reached.0 c.requires.reached.1 in
    let more = c.settle-written.ensures.waits (parting went.after) (c.part.ensures went.after went.at) in
    let one = held_one c.settle-written.new.handles more.after more.at in
    omega (arith, one)

pub returns-then-is_parting-clause-talks : goal.returns-then-is_parting-clause-talks
returns-then-is_parting-clause-talks g c =
    talk_ends c.args.offset c.args.length c.args.world.now (g.O.Sink.taken c.args.out.now) (g.O.Sink.taken c.read-end.new.out) c.read-end.result c.end_of.result c.settle-written.result c.state.result c.read-end.new.world c.settle-written.new.world (sym c.is_parting.ensures ∙ c.if-is_parting.true)
    _ _ _ _ _ _ c.args.handles.now c.read-end.new.handles c.part.new.handles c.settle-written.new.handles c.read-end.ensures.faults c.settle-written.ensures.faults c.read-end.ensures.reads c.part.ensures c.settle-written.ensures.waits
    (λ seen at. c.state.ensures.told seen.history (at_handle c.settle-written.new.handles c.get.result.now.machine seen c.get.ensures at)) c.end_of.ensures.ends

pub returns-then-is_parting-clause-silent : goal.returns-then-is_parting-clause-silent
returns-then-is_parting-clause-silent g c =
    end_silent c.read-end.result c.settle-written.result c.state.result c.end_of.result _ c.end_of.ensures.ends (λ e. rises_more _ _ _ _ (c.read-end.ensures.silent e) c.settle-written.ensures.idles) (λ e. c.settle-written.ensures.silent e)

pub returns-then-is_parting-clause-output : goal.returns-then-is_parting-clause-output
returns-then-is_parting-clause-output g c = end_output c.read-end.result c.settle-written.result c.state.result c.end_of.result _ c.end_of.ensures.ends c.read-end.ensures.output

pub returns-then-is_parting-clause-contents : goal.returns-then-is_parting-clause-contents
returns-then-is_parting-clause-contents g c = keeps_on _ _ _ c.read-end.ensures.contents c.settle-written.ensures.contents

pub returns-clause-talks : goal.returns-clause-talks
returns-clause-talks g c =
    talk_stops c.args.offset c.args.length c.args.world.now (g.O.Sink.taken c.args.out.now) (g.O.Sink.taken c.read-end.new.out) c.read-end.result (sym c.is_parting.ensures ∙ c.if-is_parting.false) _ _ _ _ c.args.handles.now c.read-end.new.handles c.read-end.ensures.reads
