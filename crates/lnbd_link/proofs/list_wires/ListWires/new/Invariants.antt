use Rattle.std.proofs.Common.{◌≡◌, map}
use Rattle.lnbd_link.specs.Left.{link_of}
use Rattle.lnbd_link.proofs.list_wires.ListWires.new.Given as goal

abbrev pub invariant-loop-link : goal.invariant-loop-link
invariant-loop-link l = l.lefts.items ≡ map link_of l.yielded
