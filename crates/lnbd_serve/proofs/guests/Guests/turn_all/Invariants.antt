use Rattle.std.proofs.Common.{◌<◌, ◌-◌, ℕ, length, false}
use Rattle.lnbd_serve.specs.Rounds.{TurnsAll, hall_of}
use Rattle.lnbd_serve.specs.Steps.{Counts, Went}
use Rattle.lnbd_serve.proofs.guests.Guests.turn_all.Given as goal

abbrev pub invariant-turns : goal.invariant-turns
invariant-turns g l = record {
  turns : (listener limit : ℕ) → Went (g.W.Wires.told l.fn.wires) (g.W.Wires.told l.wires) (λ calls. TurnsAll listener limit l.at l.did (hall_of l.fn.self l.fn.export) calls (hall_of l.self l.export));
  counts : Counts false (g.W.Wires.faults l.fn.wires) (g.W.Wires.faults l.wires) (g.W.Wires.idles l.fn.wires) (g.W.Wires.idles l.wires);
  room : 0 < length l.buffer;
}

abbrev pub decreases-turns : goal.decreases-turns
decreases-turns g l = length l.self.all.items - l.at
