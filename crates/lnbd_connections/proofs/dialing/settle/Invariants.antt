use Rattle.std.proofs.Common.{[], true, ◌≡◌, ℕ, List, Option}
use Rattle.lnbd_link.specs.Call.{Call}
use Rattle.lnbd_course.specs.Far.{Far}
use Rattle.lnbd_conduct.specs.Told.{Told}
use Rattle.lnbd_copy.specs.Causes.{GoesOn}
use Rattle.lnbd_copy.specs.Way.{Stand}
use Rattle.lnbd_connections.specs.Asks.{AsksNone}
use Rattle.lnbd_connections.specs.Bound.{Binds}
use Rattle.lnbd_connections.specs.Few.{StaysFew}
use Rattle.lnbd_connections.specs.Steps.{Goes}
use Rattle.lnbd_connections.specs.Unready.{KeepsAwaiting, PausesUnready}
use Rattle.lnbd_connections.specs.Uses.{Uses}
use Rattle.lnbd_connections.specs.Way.{IsUnderWay, Way}
use Rattle.lnbd_connections.proofs.dialing.settle.Given as goal

abbrev pub invariant-turns : goal.invariant-turns
invariant-turns g l = record {
  uses : Stand l.fn.handles → Uses true l.fn.start.idles [] l.fn.handles (g.W.Wires.told l.fn.wires) (g.W.Wires.idles l.fn.wires) l.handles (g.W.Wires.told l.wires) (g.W.Wires.idles l.wires);
  unready : PausesUnready l.fn.board l.fn.handles (g.W.Wires.told l.fn.wires) (g.W.Wires.told l.wires);
  awaits : KeepsAwaiting l.fn.board l.fn.handles (g.W.Wires.told l.fn.wires) l.board l.handles (g.W.Wires.told l.wires);
  goes : Goes l.fn.board l.fn.handles (g.W.Wires.told l.fn.wires) l.board l.handles (g.W.Wires.told l.wires);
  binds : Binds l.fn.board l.fn.handles (g.W.Wires.told l.fn.wires) l.board l.handles (g.W.Wires.told l.wires);
  few : (most : ℕ) (far : Far) (way : Way) (start : Option (List Call)) → Stand l.fn.handles → l.fn.board.rows ≡ [] →
      Told start (g.W.Wires.told l.fn.wires) (λ calls. IsUnderWay far way l.fn.board calls l.fn.handles) → StaysFew most start (g.W.Wires.told l.fn.wires) (g.W.Wires.told l.wires);
  counts : GoesOn (g.W.Wires.faults l.fn.wires) (g.W.Wires.faults l.wires) (g.W.Wires.idles l.fn.wires) (g.W.Wires.idles l.wires) (g.W.Wires.contents l.fn.wires) (g.W.Wires.contents l.wires);
  asks : AsksNone l.fn.board l.fn.handles (g.W.Wires.told l.fn.wires) (g.W.Wires.told l.wires);
}
