use Rattle.std.proofs.Common.{Option, Ok, Err, drop, arith, refl, sym, subst, ◌∙◌}
use Rattle.std.proofs.lemmas.List.{drop_all}
use Rattle.lnbd_script.specs.declared.event.Event.{Event}
use Rattle.lnbd_script.specs.Seen.{Blames}
use Rattle.lnbd_script.proofs.PlayLemmas.{begun_made, begun_none, begun_on, lines_done, next_item, ok_of, shown_at, stopped_between, stopped_halt, stopped_untold}
use Rattle.lnbd_script.proofs.TurnLemmas.{blames_on, blames_same}
use Rattle.lnbd_script.proofs.playing.play_lines.Goals as goal

pub lines-init : goal.lines-init
lines-init g c = record { begun = λ scene s. begun_none _ scene _ _ _ _ s; still = refl; start = refl; unread = c.requires.unread; counts = blames_same _ _ }

pub make_current-requires : goal.make_current-requires
make_current-requires g c =
    let b = c.lines.invariant.begun c.requires.reached.0 c.requires.reached.1 in
    omega (arith, b.at.current, b.at.inside, b.at.count)

pub returns-then-is_err-clause-played : goal.returns-then-is_err-clause-played
returns-then-is_err-clause-played g c scene s = stopped_between c.args.lines.now _ scene _ _ _ _ _ _ (begun_made c.args.lines.now scene _ _ _ _ _ _ c.make_current.new.self _ (c.lines.invariant.begun scene s) c.make_current.ensures.stands)

pub step-requires : goal.step-requires
step-requires g c =
    let b = c.lines.invariant.begun c.requires.reached.0 c.requires.reached.1 in
    record { reached = (b.middle, c.make_current.ensures.stands b.middle _ b.at); used = ok_of c.make_current.result (sym c.is_err.ensures.value ∙ c.if-is_err.false) c.make_current.ensures.used; unread = c.make_current.ensures.unread ∙ c.lines.invariant.unread }

pub current-requires : goal.current-requires
current-requires g c =
    let b = c.lines.invariant.begun c.requires.reached.0 c.requires.reached.1 in
    let w = c.step.ensures.acts b.middle (c.make_current.ensures.stands b.middle _ b.at) in
    record { inside = omega (arith, w.at.current, w.at.inside, w.at.count) }

pub returns-in-Err-clause-played : goal.returns-in-Err-clause-played
returns-in-Err-clause-played g c scene s =
    let b = begun_made c.args.lines.now scene _ _ _ _ _ _ c.make_current.new.self _ (c.lines.invariant.begun scene s) c.make_current.ensures.stands in
    stopped_halt c.args.lines.now _ _ scene _ _ _ _ _ _ c.make_current.new.self c.step.new.self _ _ c.line-item.result c.step.result (next_item _ _ _ c.lines-test.true c.line-item.is) b c.step.ensures.acts c.in-Err.halt c.from.result c.in-Err.is refl c.from.ensures

pub returns-in-Err-tell-clause-played : goal.returns-in-Err-tell-clause-played
returns-in-Err-tell-clause-played g c scene s =
    let b = begun_made c.args.lines.now scene _ _ _ _ _ _ c.make_current.new.self _ (c.lines.invariant.begun scene s) c.make_current.ensures.stands in
    stopped_untold c.args.lines.now _ _ scene _ _ _ _ _ _ c.make_current.new.self c.step.new.self _ _ c.line-item.result c.step.result (next_item _ _ _ c.lines-test.true c.line-item.is) b c.step.ensures.acts c.in-Ok.told c.in-Err-tell.unshown c.from-in-Err-tell.result c.in-Ok.is
    (shown_at (Err c.in-Err-tell.unshown) (g.O.Sink.taken c.lines.out) (g.O.Sink.taken c.tell.new.out) c.in-Ok.told c.current.result.now c.step.new.self _ c.current.ensures c.in-Err-tell.ensures.shown) c.from-in-Err-tell.ensures

pub lines-preserved : goal.lines-preserved
lines-preserved g c = record {
  begun = λ scene s.
      let b = begun_made c.args.lines.now scene _ _ _ _ _ _ c.make_current.new.self _ (c.lines.invariant.begun scene s) c.make_current.ensures.stands in
      begun_on c.args.lines.now _ _ scene _ _ _ _ _ _ c.make_current.new.self c.step.new.self _ _ c.line-item.result c.step.result (next_item _ _ _ c.lines-test.true c.line-item.is) b c.step.ensures.acts c.in-Ok.told c.in-Ok.is
      (shown_at (Ok tt) (g.O.Sink.taken c.lines.out) (g.O.Sink.taken c.tell.new.out) c.in-Ok.told c.current.result.now c.step.new.self _ c.current.ensures c.in_default.ensures.shown);
  still = c.in_default.ensures.well ∙ c.lines.invariant.still;
  start = c.step.ensures.start ∙ c.make_current.ensures.start ∙ c.lines.invariant.start;
  unread = c.in-Ok.ensures.unread;
  counts = blames_on _ _ _ _ _ _ c.lines.invariant.counts
      (subst (λ (e : Option Event). Blames e c.step.new.self.first (g.W.Wires.faults c.lines.wires) (g.W.Wires.faults c.step.new.wires)) c.make_current.ensures.first c.step.ensures.counts);
}

pub returns-clause-played : goal.returns-clause-played
returns-clause-played g c scene s = lines_done c.args.lines.now (drop c.lines.line-index c.args.lines.now) scene _ _ _ _ _ _ (drop_all c.lines.line-index c.args.lines.now (omega arith)) (c.lines.invariant.begun scene s)
