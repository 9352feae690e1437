use Rattle.std.proofs.Common.{refl, sym, ◌∙◌, ap, subst, arith, Option, List}
use Rattle.std.specs.List.{list_any}
use Rattle.lnbd_script.specs.declared.event.Event.{Event}
use Rattle.lnbd_script.specs.declared.place.Place.{Place}
use Rattle.lnbd_script.specs.declared.sessions.Sessions.{Sessions}
use Rattle.lnbd_script.specs.Seen.{Blames}
use Rattle.lnbd_script.specs.Steps.{is_busy_place}
use Rattle.lnbd_script.proofs.RoundLemmas.{Paused, Rounded, settling_done, settling_none, settling_on, settling_short, settling_silent, settling_still}
use Rattle.lnbd_script.proofs.RoundSpendLemmas.{budget_of, places_spend}
use Rattle.lnbd_script.proofs.TurnLemmas.{blames_none, blames_of, blames_on, blames_same}
use Rattle.lnbd_script.proofs.sessions.Sessions.settle.Goals as goal

pub rounds-init : goal.rounds-init
rounds-init g c = record { settling = λ scene s. settling_none _ _ _ scene s; counts = blames_same _ _; start = refl; unread = c.requires.unread }

pub returns-then-is_long-clause-settles : goal.returns-then-is_long-clause-settles
returns-then-is_long-clause-settles g c scene s =
    let mid : Sessions = record { places = c.round.new.places; current = c.rounds.self.current; first = c.round.new.first; start = c.rounds.self.start; wants = c.rounds.self.wants; inbox = c.round.new.inbox; hears = c.rounds.self.hears } in
    let rounded : Rounded c.rounds.self mid (g.W.Wires.idles c.rounds.wires) (g.W.Wires.idles c.round.new.wires) = record { count = c.round.ensures.count; current = refl; start = refl; room = refl; later = c.round.ensures.counts.idles_later } in
    let busy = ap (λ (ps : List Place). list_any is_busy_place ps) (sym c.deref.ensures.value) ∙ sym c.is_any_busy.ensures ∙ c.rounds-test.true in
    let paused : Paused mid c.pause.new.self = record {
      places = ap (λ (s : Sessions). s.places) c.pause.ensures.same;
      current = ap (λ (s : Sessions). s.current) c.pause.ensures.same;
      first = ap (λ (s : Sessions). s.first) c.pause.ensures.same;
      start = ap (λ (s : Sessions). s.start) c.pause.ensures.same;
      room = c.pause.ensures.room;
    } in
    settling_silent _ _ _ c.rounds.self mid _ _ scene (c.rounds.invariant.settling scene s) busy rounded c.in-Ok-false.field-0 c.in-Ok-false.ensures.ok _ _ c.pause.new.self c.in-Ok-false.field-0-test c.pause.ensures.told paused c.pause.ensures.idles

pub returns-then-is_long-clause-counts : goal.returns-then-is_long-clause-counts
returns-then-is_long-clause-counts g c =
    let first = ap (λ (s : Sessions). s.first) c.pause.ensures.same in
    blames_on _ _ _ _ _ _ c.rounds.invariant.counts (blames_on _ _ _ _ _ _ (blames_of _ _ _ _ _ _ c.round.ensures.counts)
    (subst (λ (f : Option Event). Blames c.round.new.first f (g.W.Wires.faults c.round.new.wires) (g.W.Wires.faults c.pause.new.wires)) (sym first) (blames_none c.round.new.first _ _ c.pause.ensures.faults)))

pub returns-in-Err-clause-counts : goal.returns-in-Err-clause-counts
returns-in-Err-clause-counts g c = blames_on _ _ _ _ _ _ c.rounds.invariant.counts (blames_of _ _ _ _ _ _ c.round.ensures.counts)

pub returns-then-is_long-clause-silent : goal.returns-then-is_long-clause-silent
returns-then-is_long-clause-silent g c e =
    let start = ap (λ (s : Sessions). s.start) c.pause.ensures.same in
    omega (arith, start, c.rounds.invariant.start, c.idles.ensures, c.is_long.ensures.long c.if-is_long.true)

pub returns-in-Err-clause-settles : goal.returns-in-Err-clause-settles
returns-in-Err-clause-settles g c scene s =
    let mid : Sessions = record { places = c.round.new.places; current = c.rounds.self.current; first = c.round.new.first; start = c.rounds.self.start; wants = c.rounds.self.wants; inbox = c.round.new.inbox; hears = c.rounds.self.hears } in
    let rounded : Rounded c.rounds.self mid (g.W.Wires.idles c.rounds.wires) (g.W.Wires.idles c.round.new.wires) = record { count = c.round.ensures.count; current = refl; start = refl; room = refl; later = c.round.ensures.counts.idles_later } in
    let busy = ap (λ (ps : List Place). list_any is_busy_place ps) (sym c.deref.ensures.value) ∙ sym c.is_any_busy.ensures ∙ c.rounds-test.true in
    settling_short _ _ _ c.rounds.self mid _ _ scene (c.rounds.invariant.settling scene s) busy rounded c.in-Err.ensures.short

pub returns-clause-settles : goal.returns-clause-settles
returns-clause-settles g c scene s = settling_done _ _ c.rounds.self _ scene (ap (λ (ps : List Place). list_any is_busy_place ps) (sym c.deref.ensures.value) ∙ sym c.is_any_busy.ensures ∙ c.rounds-test.false) (c.rounds.invariant.settling scene s)

pub rounds-preserved : goal.rounds-preserved
rounds-preserved g c =
    let mid : Sessions = record { places = c.round.new.places; current = c.rounds.self.current; first = c.round.new.first; start = c.rounds.self.start; wants = c.rounds.self.wants; inbox = c.round.new.inbox; hears = c.rounds.self.hears } in
    let rounded : Rounded c.rounds.self mid (g.W.Wires.idles c.rounds.wires) (g.W.Wires.idles c.round.new.wires) = record { count = c.round.ensures.count; current = refl; start = refl; room = refl; later = c.round.ensures.counts.idles_later } in
    let busy = ap (λ (ps : List Place). list_any is_busy_place ps) (sym c.deref.ensures.value) ∙ sym c.is_any_busy.ensures ∙ c.rounds-test.true in
    let paused : Paused mid c.pause.new.self = record {
      places = ap (λ (s : Sessions). s.places) c.pause.ensures.same;
      current = ap (λ (s : Sessions). s.current) c.pause.ensures.same;
      first = ap (λ (s : Sessions). s.first) c.pause.ensures.same;
      start = ap (λ (s : Sessions). s.start) c.pause.ensures.same;
      room = c.pause.ensures.room;
    } in
    record {
      settling = λ scene s. settling_still _ _ _ c.rounds.self mid _ _ scene (c.rounds.invariant.settling scene s) busy rounded c.in-Ok-false.field-0 c.in-Ok-false.ensures.ok _ _ c.pause.new.self c.in-Ok-false.field-0-test c.pause.ensures.told paused c.pause.ensures.idles
          (omega (arith, c.idles.ensures, c.is_long.ensures.within c.if-is_long.false)) (omega (arith, c.idles.ensures, c.is_long.ensures.open c.if-is_long.false));
      counts = blames_on _ _ _ _ _ _ c.rounds.invariant.counts (blames_on _ _ _ _ _ _ (blames_of _ _ _ _ _ _ c.round.ensures.counts)
          (subst (λ (f : Option Event). Blames c.round.new.first f (g.W.Wires.faults c.round.new.wires) (g.W.Wires.faults c.pause.new.wires)) (sym paused.first) (blames_none c.round.new.first _ _ c.pause.ensures.faults)));
      start = paused.start ∙ c.rounds.invariant.start;
      unread = ap (λ (s : Sessions). s.inbox) c.pause.ensures.same ∙ c.in-Ok-false.ensures.unread;
    }

pub rounds-preserved-in-Ok-true : goal.rounds-preserved-in-Ok-true
rounds-preserved-in-Ok-true g c =
    let mid : Sessions = record { places = c.round.new.places; current = c.rounds.self.current; first = c.round.new.first; start = c.rounds.self.start; wants = c.rounds.self.wants; inbox = c.round.new.inbox; hears = c.rounds.self.hears } in
    let rounded : Rounded c.rounds.self mid (g.W.Wires.idles c.rounds.wires) (g.W.Wires.idles c.round.new.wires) = record { count = c.round.ensures.count; current = refl; start = refl; room = refl; later = c.round.ensures.counts.idles_later } in
    let busy = ap (λ (ps : List Place). list_any is_busy_place ps) (sym c.deref.ensures.value) ∙ sym c.is_any_busy.ensures ∙ c.rounds-test.true in
    record {
      settling = λ scene s. settling_on _ _ _ c.rounds.self mid _ _ scene (c.rounds.invariant.settling scene s) busy rounded c.in-Ok-true.field-0 c.in-Ok-true.ensures.ok c.in-Ok-true.field-0-test;
      counts = blames_on _ _ _ _ _ _ c.rounds.invariant.counts (blames_of _ _ _ _ _ _ c.round.ensures.counts);
      start = c.rounds.invariant.start;
      unread = c.in-Ok-true.ensures.unread;
    }

pub round-requires : goal.round-requires
round-requires g c =
    let s = c.rounds.invariant.settling c.requires.reached.0 c.requires.reached.1 in
    record { reached = (s.now.handles, s.at.held); unread = c.rounds.invariant.unread }

pub pause-requires : goal.pause-requires
pause-requires g c =
    let s = c.rounds.invariant.settling c.requires.reached.0 c.requires.reached.1 in
    omega (arith, s.at.count, s.at.room, c.round.ensures.count)

pub rounds-smaller : goal.rounds-smaller
rounds-smaller g c =
    let s = c.rounds.invariant.settling c.requires.reached.0 c.requires.reached.1 in
    let w = c.in-Ok-false.ensures.ok s.now.handles s.at.held in
    let spent = places_spend s.now.handles w.after _ _ _ _ w.calls c.in-Ok-false.field-0 s.at.held w.at w.leads.0 w.leads.1 in
    let start = ap (λ (s : Sessions). s.start) c.pause.ensures.same in
    let same = ap (λ (s : Sessions). budget_of s.places.items) c.pause.ensures.same in
    omega (arith, spent.0, start, same, s.at.started, c.pause.ensures.idles, c.round.ensures.counts.idles_later, c.idles.ensures, c.is_long.ensures.within c.if-is_long.false, c.is_long.ensures.open c.if-is_long.false)

pub rounds-smaller-in-Ok-true : goal.rounds-smaller-in-Ok-true
rounds-smaller-in-Ok-true g c =
    let s = c.rounds.invariant.settling c.requires.reached.0 c.requires.reached.1 in
    let w = c.in-Ok-true.ensures.ok s.now.handles s.at.held in
    let spent = places_spend s.now.handles w.after _ _ _ _ w.calls c.in-Ok-true.field-0 s.at.held w.at w.leads.0 w.leads.1 in
    omega (arith, spent.1 c.in-Ok-true.field-0-test, c.round.ensures.counts.idles_later)
