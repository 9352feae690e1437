use Rattle.std.proofs.Common.{◌≤◌, ◌+◌, ◌-◌, min}
use Rattle.lnbd_link.specs.Contents.{Keeps}
use Rattle.lnbd_poll.specs.Seen.{Seen}
use Rattle.lnbd_waits.specs.Waits.{Holds}
use Rattle.lnbd_waits.proofs.WaitLemmas.{Waiting}
use Rattle.lnbd_waits.proofs.SpendLemmas.{budget_of}
use Rattle.lnbd_waits.proofs.waiting.settle.Given as goal

abbrev pub invariant-turns : goal.invariant-turns
invariant-turns g l = record {
  waiting : (seen : Seen g.row.K.Denot) → Holds l.fn.handles seen → Waiting g.K.Caller.steps l.awaited (g.W.Wires.told l.fn.wires) (g.W.Wires.told l.wires) (g.W.Wires.faults l.fn.wires) (g.W.Wires.faults l.wires) l.handles seen l.fn.world l.world;
  contents : Keeps (g.W.Wires.contents l.fn.wires) (g.W.Wires.contents l.wires);
  faults_later : g.W.Wires.faults l.fn.wires ≤ g.W.Wires.faults l.wires;
  idles_later : g.W.Wires.idles l.fn.wires ≤ g.W.Wires.idles l.wires;
}

abbrev pub decreases-turns : goal.decreases-turns
decreases-turns g l = budget_of l.handles + (min (l.start + 1000000000) 18446744073709551615 - g.W.Wires.idles l.wires)
