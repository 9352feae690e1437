use Rattle.std.proofs.Common.{◌≡◌, length, false}
use Rattle.lnbd_serve.specs.Rounds.{budget, hall_of}
use Rattle.lnbd_serve.specs.Steps.{Counts, Went}
use Rattle.lnbd_serve.proofs.ServeLemmas.{Serving}
use Rattle.lnbd_serve.proofs.serving.serve_all.Given as goal

abbrev pub invariant-serving : goal.invariant-serving
invariant-serving g l = record {
  serving : Went (g.W.Wires.told l.fn.wires) (g.W.Wires.told l.wires) (λ calls. Serving l.door.listener l.door.limit (hall_of l.fn.guests l.fn.export) calls (hall_of l.guests l.export));
  counts : Counts false (g.W.Wires.faults l.fn.wires) (g.W.Wires.faults l.wires) (g.W.Wires.idles l.fn.wires) (g.W.Wires.idles l.wires);
  room : length l.buffer ≡ 65536;
}

abbrev pub decreases-serving : goal.decreases-serving
decreases-serving g l = budget l.door.limit (hall_of l.guests l.export)
