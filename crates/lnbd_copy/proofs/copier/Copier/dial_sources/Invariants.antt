use Rattle.std.proofs.Common.{◌≡◌, ◌+◌, ◌-◌, ◌<◌, ◌≤◌, Some, length, replicate}
use Rattle.lnbd_copy.specs.Deciding.{IsCalm}
use Rattle.lnbd_copy.specs.Causes.{GoesOn}
use Rattle.lnbd_copy.specs.Copier.{GoesFurther}
use Rattle.lnbd_copy.specs.Pace.{TriesAtMost}
use Rattle.lnbd_copy.specs.Pauses.{Unpaused}
use Rattle.lnbd_copy.specs.Links.{LinksGo}
use Rattle.lnbd_copy.specs.Faults.{AreUnissued, StaysUnasked}
use Rattle.lnbd_copy.specs.Connects.{StaysConnected}
use Rattle.lnbd_copy.proofs.copier.Copier.dial_sources.Given as goal

abbrev pub invariant-further : goal.invariant-further
invariant-further g l = record {
  kept : l.self ≡ record l.fn.self { held = l.self.held; board = l.self.board };
  many : length l.fn.self.held ≡ 2 → length l.self.held ≡ l.connection + 1;
  some : 0 < l.connection;
  further : GoesFurther l.fn.self l.fn.sides 2 l.fn.self.board l.fn.self.held (g.W.Wires.told l.fn.wires) l.self.board l.self.held (g.W.Wires.told l.wires);
  untried : TriesAtMost 0 (g.W.Wires.told l.fn.wires) (g.W.Wires.told l.wires);
  unpaused : Unpaused (g.W.Wires.told l.fn.wires) (g.W.Wires.told l.wires);
  connects : LinksGo (replicate (l.connection - 1) l.fn.self.from.to) l.fn.self.held (g.W.Wires.told l.fn.wires) l.self.held (g.W.Wires.told l.wires);
  most : l.connection - 1 ≤ l.fn.sides.source - 1;
  unasked : StaysUnasked l.fn.self.from l.fn.self.to (g.W.Wires.told l.fn.wires) (g.W.Wires.told l.wires);
  unissued : AreUnissued l.fn.self.held → AreUnissued l.self.held;
  connected : StaysConnected (g.W.Wires.told l.fn.wires) (g.W.Wires.told l.wires);
  counts : GoesOn (g.W.Wires.faults l.fn.wires) (g.W.Wires.faults l.wires) (g.W.Wires.idles l.fn.wires) (g.W.Wires.idles l.wires) (g.W.Wires.contents l.fn.wires) (g.W.Wires.contents l.wires);
  calm : IsCalm (Some l.fn.sides) l.self.board l.self.held;
}
