use Rattle.std.proofs.Common.{◌≡◌, map, take, false}
use Rattle.lnbd_serve.specs.Served.{shut_of}
use Rattle.lnbd_serve.specs.Steps.{Counts, Went}
use Rattle.lnbd_serve.proofs.serving.shut_all.Given as goal

abbrev pub invariant-guests : goal.invariant-guests
invariant-guests g l = record {
  went : Went (g.W.Wires.told l.fn.wires) (g.W.Wires.told l.wires) (λ calls. calls ≡ map shut_of (take l.i l.all.items));
  counts : Counts false (g.W.Wires.faults l.fn.wires) (g.W.Wires.faults l.wires) (g.W.Wires.idles l.fn.wires) (g.W.Wires.idles l.wires);
}
