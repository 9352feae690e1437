use Rattle.std.proofs.Common.{◌≡◌, ℕ, [], false, length}
use Rattle.lnbd_copy.specs.Causes.{GoesOn}
use Rattle.lnbd_copy.specs.Pauses.{Unpaused}
use Rattle.lnbd_connections.specs.Uses.{Uses}
use Rattle.lnbd_copy.specs.Faults.{GoesIdly}
use Rattle.lnbd_connections.proofs.parting.shut_all.Given as goal

abbrev pub invariant-handles : goal.invariant-handles
invariant-handles g l = record {
  unpaused : Unpaused (g.W.Wires.told l.fn.wires) (g.W.Wires.told l.wires);
  uses : (first : ℕ) → Uses false first [] l.fn.handles (g.W.Wires.told l.fn.wires) (g.W.Wires.idles l.fn.wires) l.handles (g.W.Wires.told l.wires) (g.W.Wires.idles l.wires);
  counts : GoesOn (g.W.Wires.faults l.fn.wires) (g.W.Wires.faults l.wires) (g.W.Wires.idles l.fn.wires) (g.W.Wires.idles l.wires) (g.W.Wires.contents l.fn.wires) (g.W.Wires.contents l.wires);
  asks : GoesIdly (g.W.Wires.told l.fn.wires) (g.W.Wires.told l.wires);
  idly : GoesIdly (g.W.Wires.told l.fn.wires) (g.W.Wires.told l.wires);
  none : l.fn.handles ≡ [] → l.handles ≡ [];
  same : l.fn.handles ≡ [] → l.wires ≡ l.fn.wires;
}

abbrev pub decreases-handles : goal.decreases-handles
decreases-handles g l = length l.handles
