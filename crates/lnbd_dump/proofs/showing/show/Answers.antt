use Rattle.std.proofs.Common.{◌≤◌, ◌+◌, ◌∙◌, ℕ, List, None, Err, Ok, Option, Some, ap, arith, refl, sym, subst, true}
use Rattle.lnbd_link.proofs.Parts.{keeps_none, keeps_on}
use Rattle.lnbd_hexdump.specs.Said.{reach}
use Rattle.lnbd_reel.specs.Said.{shown_to}
use Rattle.lnbd_reel.specs.declared.reel.Part.{Part}
use Rattle.lnbd_dump.specs.declared.asking.Plan.{Plan}
use Rattle.lnbd_dump.specs.Filling.{FollowEach}
use Rattle.lnbd_dump.specs.Showing.{Shows}
use Rattle.lnbd_dump.specs.declared.stop.Stop.TheVariants as stop
use Rattle.lnbd_waits.specs.declared.waiting.Halt.TheVariants as halt
use Rattle.lnbd_waits.proofs.TurnLemmas.{held_one}
use Rattle.lnbd_dump.proofs.NextLemmas.{first_of, none_of}
use Rattle.lnbd_dump.proofs.PlanLemmas.{plan_same}
use Rattle.lnbd_dump.proofs.ReadLemmas.{comes_none}
use Rattle.lnbd_dump.proofs.ShowLemmas.{left_end, left_goes, left_next, left_part, show_stops, shown_next, shown_none, shown_part}
use Rattle.lnbd_dump.proofs.showing.show.Goals as goal

pub parts-init : goal.parts-init
parts-init g c = record {
  shown = λ before at. shown_none c.args.plan c.args.runs c.args.world.now c.args.offset c.args.count _ before _ _ c.args.handles.now c.new-reel.result c.in-Ok.dumper c.new-reel.ensures at c.requires.begins c.in-Ok.ensures.stands;
  order = c.requires.order;
  follow = subst (λ (l : List Part). FollowEach c.args.plan.at l c.args.plan.at) (sym c.new-reel.ensures) refl;
  within = c.requires.some;
  same = refl;
  empty = c.new-text.ensures.items;
  reach = (let r = c.in-Ok.ensures.reach in omega (arith, r));
  contents = keeps_none _;
  faults_later = omega arith;
  idles_later = omega arith;
  still = refl;
}

pub next_part-requires-clause-reached : goal.next_part-requires-clause-reached
next_part-requires-clause-reached g c = let s = c.parts.invariant.shown c.requires.reached.0 c.requires.reached.1 in (s.after, s.there)

pub returns-in-Err-clause-shows : goal.returns-in-Err-clause-shows
returns-in-Err-clause-shows g c =
    comes_none true _ _ c.args.handles.now
    (λ s t e. Unit {0} × Shows {A = Unit {0}} (Err (stop.Halted halt.NoMemory)) c.args.plan c.args.runs c.args.world.now c.args.offset c.args.count (g.O.Sink.taken c.args.out.now) (g.O.Sink.taken c.args.out.now) s.history t.history e.history)
    (λ seen at. (tt, show_stops (stop.Halted halt.NoMemory) c.args.plan c.args.runs c.args.world.now c.args.offset c.args.count (g.O.Sink.taken c.args.out.now) seen.history))

pub returns-in-Err-next_part-clause-shows : goal.returns-in-Err-next_part-clause-shows
returns-in-Err-next_part-clause-shows g c seen at =
    left_goes c.args.plan c.args.runs c.args.world.now c.args.offset c.args.count (g.O.Sink.taken c.args.out.now) seen _ _ (Err c.in-Err-next_part.stop) _ _ c.next_part.new.handles (g.O.Sink.taken c.parts.out)
    (left_next c.args.plan c.args.runs c.args.world.now c.args.offset c.args.count (g.O.Sink.taken c.args.out.now) seen _ _ _ _ _ _ c.parts.handles c.next_part.new.handles c.parts.at c.parts.plan c.next_part.new.plan c.parts.runs c.next_part.new.runs c.parts.reel c.next_part.new.reel c.parts.world c.next_part.new.world c.parts.dumper (g.O.Sink.taken c.parts.out) c.next_part.result
    c.in-Err-next_part.stop c.in-Err-next_part.is c.parts.invariant.faults_later c.next_part.ensures.faults (c.parts.invariant.shown seen at) c.next_part.ensures.goes)

pub show_part-requires-clause-one : goal.show_part-requires-clause-one
show_part-requires-clause-one g c =
    let s = c.parts.invariant.shown c.requires.reached.0 c.requires.reached.1 in
    let went = c.next_part.ensures.goes s.after s.there in
    held_one c.next_part.new.handles went.after went.at

pub show_part-requires-clause-room : goal.show_part-requires-clause-room
show_part-requires-clause-room g c =
    let first = first_of c.parts.at c.next_part.new.plan.at c.in-Ok-next_part.found c.in-Some.part c.next_part.new.reel c.in-Some.is (c.in-Ok-next_part.ensures.follow c.parts.at c.parts.invariant.follow) in
    let end = ap (λ (p : Plan). p.end) c.next_part.ensures.same in
    let same = ap (λ (p : Plan). p.end) c.parts.invariant.same in
    let low = first.within in
    (omega (arith, low, end, same, c.in-Ok-next_part.ensures.within, c.requires.ends), omega (arith, c.requires.ends))

pub show_part-requires-clause-reach : goal.show_part-requires-clause-reach
show_part-requires-clause-reach g c =
    let first = first_of c.parts.at c.next_part.new.plan.at c.in-Ok-next_part.found c.in-Some.part c.next_part.new.reel c.in-Some.is (c.in-Ok-next_part.ensures.follow c.parts.at c.parts.invariant.follow) in
    subst (λ (n : ℕ). reach c.parts.dumper ≤ c.args.offset + shown_to c.args.offset (c.args.offset + c.args.count) n) (sym first.start) c.parts.invariant.reach

pub overflow_add-at : goal.overflow_add-at
overflow_add-at g c =
    let first = first_of c.parts.at c.next_part.new.plan.at c.in-Ok-next_part.found c.in-Some.part c.next_part.new.reel c.in-Some.is (c.in-Ok-next_part.ensures.follow c.parts.at c.parts.invariant.follow) in
    let end = ap (λ (p : Plan). p.end) c.next_part.ensures.same in
    let same = ap (λ (p : Plan). p.end) c.parts.invariant.same in
    let low = first.within in
    omega (arith, low, end, same, c.in-Ok-next_part.ensures.within, c.requires.ends)

pub parts-smaller : goal.parts-smaller
parts-smaller g c =
    let first = first_of c.parts.at c.next_part.new.plan.at c.in-Ok-next_part.found c.in-Some.part c.next_part.new.reel c.in-Some.is (c.in-Ok-next_part.ensures.follow c.parts.at c.parts.invariant.follow) in
    let end = ap (λ (p : Plan). p.end) c.next_part.ensures.same in
    let same = ap (λ (p : Plan). p.end) c.parts.invariant.same in
    let low = first.within in
    let start = first.start in
    let some = first.some in
    omega (arith, low, start, some, end, same, c.in-Ok-next_part.ensures.within)

pub parts-preserved : goal.parts-preserved
parts-preserved g c =
    let first = first_of c.parts.at c.next_part.new.plan.at c.in-Ok-next_part.found c.in-Some.part c.next_part.new.reel c.in-Some.is (c.in-Ok-next_part.ensures.follow c.parts.at c.parts.invariant.follow) in
    record {
      shown = λ seen at.
          shown_part c.args.plan c.args.runs c.args.world.now c.args.offset c.args.count (g.O.Sink.taken c.args.out.now) seen _ _ _ _ c.next_part.new.handles c.show_part.new.handles c.parts.at c.next_part.new.plan c.next_part.new.runs c.in-Some.part c.next_part.new.reel c.next_part.new.world c.parts.dumper c.show_part.new.dumper (g.O.Sink.taken c.parts.out) (g.O.Sink.taken c.show_part.new.out)
          c.show_part.result tt c.in-Ok-show_part.is
          (shown_next c.args.plan c.args.runs c.args.world.now c.args.offset c.args.count (g.O.Sink.taken c.args.out.now) seen _ _ _ _ _ _ c.parts.handles c.next_part.new.handles c.parts.at c.parts.plan c.next_part.new.plan c.parts.runs c.next_part.new.runs c.parts.reel c.next_part.new.reel c.parts.world c.next_part.new.world c.parts.dumper (g.O.Sink.taken c.parts.out) c.next_part.result (Some c.in-Some.part) (c.in-Ok-next_part.is ∙ ap (λ (o : Option Part). Ok o) c.in-Some.is) c.parts.invariant.faults_later c.next_part.ensures.faults (c.parts.invariant.shown seen at) c.next_part.ensures.goes) c.show_part.ensures.shows;
      order = c.in-Ok-next_part.ensures.order;
      follow = first.follow;
      within = c.in-Ok-next_part.ensures.within;
      same = plan_same c.args.plan c.parts.plan c.next_part.new.plan c.parts.invariant.same c.next_part.ensures.same;
      empty = c.in-Ok-show_part.ensures.empty;
      reach = c.in-Ok-show_part.ensures.reach;
      contents = keeps_on _ _ _ c.parts.invariant.contents c.next_part.ensures.contents;
      faults_later = omega (arith, c.parts.invariant.faults_later, c.next_part.ensures.faults);
      idles_later = omega (arith, c.parts.invariant.idles_later, c.next_part.ensures.idles);
      still = c.in-Ok-show_part.ensures.well ∙ c.parts.invariant.still;
    }

pub returns-in-Err-show_part-clause-shows : goal.returns-in-Err-show_part-clause-shows
returns-in-Err-show_part-clause-shows g c seen at =
    left_goes c.args.plan c.args.runs c.args.world.now c.args.offset c.args.count (g.O.Sink.taken c.args.out.now) seen _ _ (Err c.in-Err-show_part.stop) _ _ c.show_part.new.handles (g.O.Sink.taken c.show_part.new.out)
    (left_part c.args.plan c.args.runs c.args.world.now c.args.offset c.args.count (g.O.Sink.taken c.args.out.now) seen _ _ _ _ c.next_part.new.handles c.show_part.new.handles c.parts.at c.next_part.new.plan c.next_part.new.runs c.in-Some.part c.next_part.new.reel c.next_part.new.world c.parts.dumper c.show_part.new.dumper (g.O.Sink.taken c.parts.out) (g.O.Sink.taken c.show_part.new.out)
    c.show_part.result c.in-Err-show_part.stop c.in-Err-show_part.is
    (shown_next c.args.plan c.args.runs c.args.world.now c.args.offset c.args.count (g.O.Sink.taken c.args.out.now) seen _ _ _ _ _ _ c.parts.handles c.next_part.new.handles c.parts.at c.parts.plan c.next_part.new.plan c.parts.runs c.next_part.new.runs c.parts.reel c.next_part.new.reel c.parts.world c.next_part.new.world c.parts.dumper (g.O.Sink.taken c.parts.out) c.next_part.result (Some c.in-Some.part) (c.in-Ok-next_part.is ∙ ap (λ (o : Option Part). Ok o) c.in-Some.is) c.parts.invariant.faults_later c.next_part.ensures.faults (c.parts.invariant.shown seen at) c.next_part.ensures.goes) c.show_part.ensures.shows)

pub returns-clause-shows : goal.returns-clause-shows
returns-clause-shows g c seen at =
    let none = none_of c.parts.at c.next_part.new.plan.at c.next_part.new.plan.end c.in-Ok-next_part.found c.next_part.new.reel c.in-None.is (c.in-Ok-next_part.ensures.follow c.parts.at c.parts.invariant.follow) c.in-Ok-next_part.ensures.none in
    let end = ap (λ (p : Plan). p.end) c.next_part.ensures.same in
    let same = ap (λ (p : Plan). p.end) c.parts.invariant.same in
    left_goes c.args.plan c.args.runs c.args.world.now c.args.offset c.args.count (g.O.Sink.taken c.args.out.now) seen _ _ c.finish.result _ _ c.next_part.new.handles (g.O.Sink.taken c.finish.new.out)
    (left_end c.args.plan c.args.runs c.args.world.now c.args.offset c.args.count (g.O.Sink.taken c.args.out.now) seen _ _ _ _ c.next_part.new.handles c.parts.at c.next_part.new.plan c.next_part.new.runs c.next_part.new.reel c.next_part.new.world c.parts.dumper (g.O.Sink.taken c.parts.out) (g.O.Sink.taken c.finish.new.out) c.finish.result (omega (arith, none, end, same, c.requires.ends))
    (shown_next c.args.plan c.args.runs c.args.world.now c.args.offset c.args.count (g.O.Sink.taken c.args.out.now) seen _ _ _ _ _ _ c.parts.handles c.next_part.new.handles c.parts.at c.parts.plan c.next_part.new.plan c.parts.runs c.next_part.new.runs c.parts.reel c.next_part.new.reel c.parts.world c.next_part.new.world c.parts.dumper (g.O.Sink.taken c.parts.out) c.next_part.result None (c.in-Ok-next_part.is ∙ ap (λ (o : Option Part). Ok o) c.in-None.is) c.parts.invariant.faults_later c.next_part.ensures.faults (c.parts.invariant.shown seen at) c.next_part.ensures.goes) c.finish.ensures.stops c.finish.ensures.ends)
