use Rattle.std.proofs.Common.{◌≤◌, ◌-◌, length, take}
use Rattle.lnbd_child.specs.Grown.{Grew}
use Rattle.lnbd_child.specs.Steps.{Puts}
use Rattle.lnbd_child.specs.Touches.{Touches}
use Rattle.lnbd_child.specs.Writing.{Wrote}
use Rattle.lnbd_child.proofs.writing.write_all.Given as goal

abbrev pub invariant-parts : goal.invariant-parts
invariant-parts g l = record {
  at : l.at ≤ length l.bytes;
  puts : Touches l.file (Puts (take l.at l.bytes)) (g.S.Store.shelf l.fn.store) (g.S.Store.shelf l.store);
  wrote : Grew (g.S.Store.told l.fn.store) (g.S.Store.told l.store) (Wrote l.file l.bytes l.at);
  later : g.S.Store.faults l.fn.store ≤ g.S.Store.faults l.store;
}

abbrev pub decreases-parts : goal.decreases-parts
decreases-parts g l = length l.bytes - l.at
