use Rattle.std.proofs.Common.{◌≡◌, false, replicate, ℕ, List, Option}
use Rattle.lnbd_link.specs.Call.{Call}
use Rattle.lnbd_copy.specs.Causes.{GoesOn}
use Rattle.lnbd_copy.specs.Connects.{StaysConnected}
use Rattle.lnbd_connections.specs.Asks.{DialsOnly}
use Rattle.lnbd_connections.specs.Bound.{BindsMore}
use Rattle.lnbd_connections.specs.Few.{StaysFew}
use Rattle.lnbd_connections.specs.Steps.{Dials}
use Rattle.lnbd_connections.specs.Unready.{AwaitsMore}
use Rattle.lnbd_connections.specs.Uses.{Uses, UsesTo}
use Rattle.lnbd_connections.proofs.dialing.dial_further.Given as goal
use Rattle.lnbd_copy.specs.Pauses.{Unpaused}

abbrev pub invariant-connections : goal.invariant-connections
invariant-connections g l = record {
  unpaused : Unpaused (g.W.Wires.told l.fn.wires) (g.W.Wires.told l.wires);
  awaits : AwaitsMore l.fn.place false l.fn.board l.fn.handles (g.W.Wires.told l.fn.wires) l.board l.handles (g.W.Wires.told l.wires);
  uses : Uses false l.fn.start.idles (replicate l._connection l.fn.place.to) l.fn.handles (g.W.Wires.told l.fn.wires) (g.W.Wires.idles l.fn.wires)
      l.handles (g.W.Wires.told l.wires) (g.W.Wires.idles l.wires);
  all : UsesTo false l.fn.start.idles (replicate l._connection l.fn.place.to) l.fn.handles (g.W.Wires.told l.fn.wires) (g.W.Wires.idles l.fn.wires)
      l.handles (g.W.Wires.told l.wires) (g.W.Wires.idles l.wires);
  connected : StaysConnected (g.W.Wires.told l.fn.wires) (g.W.Wires.told l.wires);
  dials : Dials l.fn.place l._connection l.fn.board l.fn.handles (g.W.Wires.told l.fn.wires) l.handles (g.W.Wires.told l.wires);
  board : l.board ≡ l.fn.board;
  binds : BindsMore l.fn.place l.fn.board l.fn.handles (g.W.Wires.told l.fn.wires) l.handles (g.W.Wires.told l.wires);
  few : (most : ℕ) (start : Option (List Call)) → StaysFew most start (g.W.Wires.told l.fn.wires) (g.W.Wires.told l.wires);
  counts : GoesOn (g.W.Wires.faults l.fn.wires) (g.W.Wires.faults l.wires) (g.W.Wires.idles l.fn.wires) (g.W.Wires.idles l.wires) (g.W.Wires.contents l.fn.wires) (g.W.Wires.contents l.wires);
  asks : DialsOnly l.fn.place l.fn.board l.fn.handles (g.W.Wires.told l.fn.wires) (g.W.Wires.told l.wires);
}
