use Rattle.std.proofs.Common.{◌≡◌, ◌≢◌, ◌+◌, ◌≤◌, [], length}
use Rattle.lnbd_copy.specs.Causes.{GoesOn}
use Rattle.lnbd_copy.specs.Leaving.{Leaves}
use Rattle.lnbd_copy.specs.Moving.{SomethingHappens}
use Rattle.lnbd_copy.specs.Deciding.{GoesShut}
use Rattle.lnbd_copy.specs.Pauses.{Unpaused}
use Rattle.lnbd_copy.specs.Links.{LinksGo}
use Rattle.lnbd_copy.specs.Faults.{GoesIdly}
use Rattle.lnbd_copy.proofs.parting.shut_parted.Given as goal

abbrev pub invariant-handles : goal.invariant-handles
invariant-handles g l = record {
  left : length l.handles + l.shut ≡ l.count;
  unpaused : Unpaused (g.W.Wires.told l.fn.wires) (g.W.Wires.told l.wires);
  still : l.shut ≡ 0 → (l.handles ≡ l.fn.handles) × (l.wires ≡ l.fn.wires) × (l.board ≡ l.fn.board);
  happens : l.shut ≢ 0 → SomethingHappens (g.W.Wires.told l.fn.wires) (g.W.Wires.told l.wires);
  few : l.shut ≤ l.passed;
  leaves : Leaves l.fn.board l.fn.handles (g.W.Wires.told l.fn.wires) l.board l.handles (g.W.Wires.told l.wires);
  shuts : GoesShut (g.W.Wires.told l.fn.wires) (g.W.Wires.told l.wires);
  links : LinksGo [] l.fn.handles (g.W.Wires.told l.fn.wires) l.handles (g.W.Wires.told l.wires);
  idly : GoesIdly (g.W.Wires.told l.fn.wires) (g.W.Wires.told l.wires);
  counts : GoesOn (g.W.Wires.faults l.fn.wires) (g.W.Wires.faults l.wires) (g.W.Wires.idles l.fn.wires) (g.W.Wires.idles l.wires) (g.W.Wires.contents l.fn.wires) (g.W.Wires.contents l.wires);
}
