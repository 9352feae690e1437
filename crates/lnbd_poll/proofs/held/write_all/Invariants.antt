use Rattle.std.proofs.Common.{◌≤◌}
use Rattle.lnbd_history.specs.Outgoing.{total}
use Rattle.lnbd_handle.specs.Histories.{ForEach}
use Rattle.lnbd_link.specs.Contents.{Keeps}
use Rattle.lnbd_poll.proofs.TurnLemmas.{Writing}
use Rattle.lnbd_poll.proofs.held.write_all.Given as goal

abbrev pub invariant-writing : goal.invariant-writing
invariant-writing g l = record {
  writing : ForEach l.fn.handle.machine (λ history. Writing g.K.Caller.steps (g.W.Wires.told l.fn.wires) (g.W.Wires.told l.wires) l.link (g.W.Wires.faults l.fn.wires) (g.W.Wires.faults l.wires) l.turn history l.fn.world l.handle.machine l.world);
  contents : Keeps (g.W.Wires.contents l.fn.wires) (g.W.Wires.contents l.wires);
  faults_later : g.W.Wires.faults l.fn.wires ≤ g.W.Wires.faults l.wires;
  idles_later : g.W.Wires.idles l.fn.wires ≤ g.W.Wires.idles l.wires;
}

abbrev pub decreases-writing : goal.decreases-writing
decreases-writing g l = total l.handle.machine.known.waits
