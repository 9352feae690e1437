use Rattle.std.proofs.Common.{◌≤◌, drop}
use Rattle.lnbd_link.specs.Contents.{Keeps}
use Rattle.lnbd_poll.specs.Seen.{Seen}
use Rattle.lnbd_waits.specs.Waits.{Holds}
use Rattle.lnbd_ask.proofs.EachLemmas.{Asking}
use Rattle.lnbd_ask.proofs.inquiring.ask_each.Given as goal

abbrev pub invariant-exports : goal.invariant-exports
invariant-exports g l = record {
  asking : (seen : Seen g.row.K.Denot) → Holds l.fn.handles seen → Asking g.K.Caller.steps (g.W.Wires.told l.fn.wires) (g.W.Wires.told l.wires) (g.W.Wires.faults l.fn.wires) (g.W.Wires.faults l.wires) l.handles l.exports (drop l.export-index l.exports) l.entries seen l.fn.world l.world;
  contents : Keeps (g.W.Wires.contents l.fn.wires) (g.W.Wires.contents l.wires);
  faults_later : g.W.Wires.faults l.fn.wires ≤ g.W.Wires.faults l.wires;
  idles_later : g.W.Wires.idles l.fn.wires ≤ g.W.Wires.idles l.wires;
}
