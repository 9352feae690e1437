use Rattle.std.proofs.Common.{◌≡◌}
use Rattle.lnbd_history.specs.Outgoing.{total}
use Rattle.lnbd_script.specs.Seen.{Counts, IsAt, Seen}
use Rattle.lnbd_script.proofs.TurnLemmas.{Writing}
use Rattle.lnbd_script.proofs.turns.write_all.Given as goal

abbrev pub invariant-writing : goal.invariant-writing
invariant-writing g l = record {
  writing : (seen : Seen) → IsAt seen l.fn.session → Writing (g.W.Wires.told l.fn.wires) (g.W.Wires.told l.wires) l.session l.link l.stirred seen;
  counts : Counts l.fn.session.first l.session.first (g.W.Wires.faults l.fn.wires) (g.W.Wires.faults l.wires) (g.W.Wires.idles l.fn.wires) (g.W.Wires.idles l.wires);
  same : l.session.link ≡ l.fn.session.link;
}

abbrev pub decreases-writing : goal.decreases-writing
decreases-writing g l = total l.session.handle.machine.known.waits
