use Rattle.std.proofs.Common.{◌≡◌, [], drop}
use Rattle.lnbd_script.specs.Scenes.{Scene}
use Rattle.lnbd_script.specs.Seen.{Blames}
use Rattle.lnbd_script.specs.Steps.{Begun, Stands}
use Rattle.lnbd_script.proofs.playing.play_lines.Given as goal

abbrev pub invariant-lines : goal.invariant-lines
invariant-lines g l = record {
  begun : (scene : Scene) → Stands scene l.fn.sessions (g.W.Wires.idles l.fn.wires) → Begun l.lines (drop l.line-index l.lines) scene (g.W.Wires.told l.fn.wires) (g.W.Wires.told l.wires) (g.O.Sink.taken l.fn.out) (g.O.Sink.taken l.out) l.sessions (g.W.Wires.idles l.wires);
  still : g.O.Sink.faults l.out ≡ g.O.Sink.faults l.fn.out;
  start : l.sessions.start ≡ l.fn.sessions.start;
  unread : l.sessions.inbox ≡ [];
  counts : Blames l.fn.sessions.first l.sessions.first (g.W.Wires.faults l.fn.wires) (g.W.Wires.faults l.wires);
}
