use Rattle.std.proofs.Common.{ℕ, Err, ap, subst, sym}
use Rattle.lnbd_link.specs.Count.{Rises, patience}
use Rattle.lnbd_dump.specs.declared.stop.Stop.{Stop}
use Rattle.lnbd_waits.specs.Begun.{base_allocation, begins}
use Rattle.lnbd_dump.proofs.TalkEndLemmas.{conversed_err, conversed_ok, link_rose, link_told, silent_told}
use Rattle.lnbd_dump.proofs.dumping.converse.Goals as goal

pub talk-talked-requires-clause-reached : goal.talk-talked-requires-clause-reached
talk-talked-requires-clause-reached g c = (begins c.requires.begins.0 c.args.place.now.name base_allocation, c.requires.begins.1)

pub returns-in-Ok-clause-converses : goal.returns-in-Ok-clause-converses
returns-in-Ok-clause-converses g c link at =
    conversed_ok link c.args.place.now c.args.offset c.args.length c.args.world.now (g.O.Sink.taken c.args.out.now) (g.O.Sink.taken c.talk-talked.new.out) c.requires.kept _ _ _ _ c.args.handles.now c.talk-talked.new.handles at c.in-Ok.count c.in-Ok.ensures.talks

pub returns-in-Err-clause-converses : goal.returns-in-Err-clause-converses
returns-in-Err-clause-converses g c link at =
    conversed_err link c.args.place.now c.args.offset c.args.length c.args.world.now (g.O.Sink.taken c.args.out.now) (g.O.Sink.taken c.talk-talked.new.out) c.requires.kept _ _ _ _ c.args.handles.now c.talk-talked.new.handles at c.in-Err.stop c.of_stop.result c.of_stop.ensures.told
    c.in-Err.ensures.talks

pub returns-in-Err-clause-link : goal.returns-in-Err-clause-link
returns-in-Err-clause-link g c =
    link_told c.of_stop.result c.in-Err.stop c.args.start.faults c.faults.result (g.W.Wires.faults c.args.wires.now) (g.W.Wires.faults c.talk-talked.new.wires)
    (link_rose c.requires.begins.0 c.args.place.now c.args.offset c.args.length c.args.world.now (g.O.Sink.taken c.args.out.now) (g.O.Sink.taken c.talk-talked.new.out) c.requires.kept _ _ _ _ c.args.handles.now c.talk-talked.new.handles c.requires.begins.1 c.in-Err.stop c.in-Err.ensures.talks)
    c.requires.counted c.faults.ensures.count c.of_stop.ensures.link

pub returns-in-Err-clause-silent : goal.returns-in-Err-clause-silent
returns-in-Err-clause-silent g c = silent_told c.of_stop.result c.in-Err.stop c.args.start.idles c.idles.result (λ e. subst (λ (n : ℕ). Rises patience c.args.start.idles n) (sym c.idles.ensures) (c.in-Err.ensures.silent (ap (λ (w : Stop). Err w) e))) c.of_stop.ensures.silent (g.W.Wires.idles c.talk-talked.new.wires) c.idles.ensures
