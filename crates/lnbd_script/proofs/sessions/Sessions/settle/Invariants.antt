use Rattle.std.proofs.Common.{◌≡◌, ◌+◌, ◌-◌, [], min}
use Rattle.lnbd_script.specs.Scenes.{Scene}
use Rattle.lnbd_script.specs.Seen.{Blames}
use Rattle.lnbd_script.specs.Steps.{Stands}
use Rattle.lnbd_script.proofs.RoundLemmas.{Settling}
use Rattle.lnbd_script.proofs.RoundSpendLemmas.{budget_of}
use Rattle.lnbd_script.proofs.sessions.Sessions.settle.Given as goal

abbrev pub invariant-rounds : goal.invariant-rounds
invariant-rounds g l = record {
  settling : (scene : Scene) → Stands scene l.fn.self (g.W.Wires.idles l.fn.wires) → Settling (g.W.Wires.told l.fn.wires) (g.W.Wires.told l.wires) l.self (g.W.Wires.idles l.wires) scene;
  counts : Blames l.fn.self.first l.self.first (g.W.Wires.faults l.fn.wires) (g.W.Wires.faults l.wires);
  start : l.self.start ≡ l.fn.self.start;
  unread : l.self.inbox ≡ [];
}

abbrev pub decreases-rounds : goal.decreases-rounds
decreases-rounds g l = budget_of l.self.places.items + (min (l.self.start + 1000000000) 18446744073709551615 - g.W.Wires.idles l.wires)
