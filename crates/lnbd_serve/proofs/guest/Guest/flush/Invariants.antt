use Rattle.std.proofs.Common.{length, false}
use Rattle.lnbd_serve.specs.Guests.{out_of}
use Rattle.lnbd_serve.specs.Steps.{Counts, Flushing, Went}
use Rattle.lnbd_serve.proofs.guest.Guest.flush.Given as goal

abbrev pub invariant-writing : goal.invariant-writing
invariant-writing g l = record {
  went : Went (g.W.Wires.told l.fn.wires) (g.W.Wires.told l.wires) (λ calls. Flushing l.moved l.fn.self calls l.self);
  counts : Counts false (g.W.Wires.faults l.fn.wires) (g.W.Wires.faults l.wires) (g.W.Wires.idles l.fn.wires) (g.W.Wires.idles l.wires);
}

abbrev pub decreases-writing : goal.decreases-writing
decreases-writing g l = length (out_of l.self)
