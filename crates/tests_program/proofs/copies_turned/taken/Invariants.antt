use Rattle.std.proofs.Common.{◌≤◌}
use Rattle.lnbd_copy.specs.Copier.{IsGoing}
use Rattle.tests_program.proofs.copies_turned.taken.Given as goal

abbrev pub invariant-turns : goal.invariant-turns
invariant-turns g l = record {
  going : IsGoing (g.W.Wires.told l.wires) l.copier;
  faults : l.copier.start.faults ≤ g.W.Wires.faults l.wires;
  idles : l.copier.start.idles ≤ g.W.Wires.idles l.wires;
}
