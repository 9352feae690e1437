use Rattle.std.proofs.Common.{◌≡◌, ◌≤◌, ◌+◌, ℕ, [], false, length}
use Rattle.lnbd_copy.specs.Causes.{GoesOn}
use Rattle.lnbd_copy.specs.Faults.{GoesIdly}
use Rattle.lnbd_connections.specs.Steps.{Leaves}
use Rattle.lnbd_connections.specs.Uses.{Uses}
use Rattle.lnbd_connections.proofs.parting.shut_parted.Given as goal
use Rattle.lnbd_copy.specs.Pauses.{Unpaused}

abbrev pub invariant-handles : goal.invariant-handles
invariant-handles g l = record {
  uses : (first : ℕ) → Uses false first [] l.fn.handles (g.W.Wires.told l.fn.wires) (g.W.Wires.idles l.fn.wires) l.handles (g.W.Wires.told l.wires) (g.W.Wires.idles l.wires);
  unpaused : Unpaused (g.W.Wires.told l.fn.wires) (g.W.Wires.told l.wires);
  still : l.shut ≡ 0 → (l.handles ≡ l.fn.handles) × (l.wires ≡ l.fn.wires) × (l.board ≡ l.fn.board);
  left : length l.handles + l.shut ≡ l.count;
  few : l.shut ≤ l.passed;
  leaves : Leaves l.fn.board l.fn.handles (g.W.Wires.told l.fn.wires) l.board l.handles (g.W.Wires.told l.wires);
  idly : GoesIdly (g.W.Wires.told l.fn.wires) (g.W.Wires.told l.wires);
  counts : GoesOn (g.W.Wires.faults l.fn.wires) (g.W.Wires.faults l.wires) (g.W.Wires.idles l.fn.wires) (g.W.Wires.idles l.wires) (g.W.Wires.contents l.fn.wires) (g.W.Wires.contents l.wires);
  asks : GoesIdly (g.W.Wires.told l.fn.wires) (g.W.Wires.told l.wires);
}
