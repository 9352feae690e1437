use Rattle.std.proofs.Common.{◌≡◌, ◌≤◌, ◌-◌, length, take}
use Rattle.lnbd_link.specs.Part.{Takes}
use Rattle.lnbd_link.proofs.whole.put.Given as goal

abbrev pub invariant-writing : goal.invariant-writing
invariant-writing g l = record {
  within : l.at ≤ length l.bytes;
  taken : Takes (g.O.Sink.taken l.fn.out) (g.O.Sink.taken l.out) (take l.at l.bytes);
  still : g.O.Sink.faults l.out ≡ g.O.Sink.faults l.fn.out;
}

abbrev pub decreases-writing : goal.decreases-writing
decreases-writing g l = length l.bytes - l.at
