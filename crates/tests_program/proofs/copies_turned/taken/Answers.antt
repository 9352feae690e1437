use Rattle.std.proofs.Common.{arith, List, Option, ◌≤◌, ap, sym, subst}
use Rattle.lnbd_copy.specs.Copier.{HasTurned, Seen}
use Rattle.lnbd_copy.specs.declared.counts.Counts.{Counts}
use Rattle.tests_program.proofs.copies_turned.taken.Goals.{in-Moved, in-Still}
use Rattle.tests_program.proofs.copies_turned.taken.Goals as goal

pub turns-preserved : goal.turns-preserved
turns-preserved g c =
    let turn = c.in_ok-turn.ensures in
    let was = c.turns.invariant in
    let told = g.W.Wires.told c.turn.new.wires in
    let turned = turn.turns was.going.start was.going.on in
    let start = ap (λ (s : Seen). s.start) turn.kept in
    record {
      going = record {
        start = was.going.start;
        on = elim c.match-branch-3.branch [
          | in-Moved w ↦ subst (λ p. HasTurned was.going.start told c.turn.new.self p) w.in-Moved.is turned
          | in-Still w ↦ subst (λ p. HasTurned was.going.start told c.turn.new.self p) w.in-Still.is turned
        ];
      };
      faults = subst (λ (s : Counts). s.faults ≤ g.W.Wires.faults c.turn.new.wires) (sym start) (omega (arith, was.faults, turn.counts.faults));
      idles = subst (λ (s : Counts). s.idles ≤ g.W.Wires.idles c.turn.new.wires) (sym start) (omega (arith, was.idles, turn.counts.idles));
    }
