use Rattle.std.proofs.Common.{◌≡◌, ◌<◌, ◌+◌, ◌*◌, ◌-◌, min, length, false}
use Rattle.lnbd_serve.specs.Rounds.{hall_of, total_owed}
use Rattle.lnbd_serve.specs.Steps.{Counts, Went}
use Rattle.lnbd_serve.proofs.ServeLemmas.{Going}
use Rattle.lnbd_serve.proofs.serving.await_news.Given as goal

abbrev pub invariant-rounds : goal.invariant-rounds
invariant-rounds g l = record {
  going : Went (g.W.Wires.told l.fn.wires) (g.W.Wires.told l.wires) (λ calls. Going l.door.listener l.door.limit (hall_of l.fn.guests l.fn.export) calls (hall_of l.guests l.export));
  counts : Counts false (g.W.Wires.faults l.fn.wires) (g.W.Wires.faults l.wires) (g.W.Wires.idles l.fn.wires) (g.W.Wires.idles l.wires);
  started : l.start ≡ g.W.Wires.idles l.fn.wires;
  room : 0 < length l.buffer;
}

abbrev pub decreases-rounds : goal.decreases-rounds
decreases-rounds g l = total_owed (hall_of l.guests l.export) * 1000000001 + (min (l.start + 1000000000) 18446744073709551615 - g.W.Wires.idles l.wires)
