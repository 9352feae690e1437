use Rattle.std.proofs.Common.{◌≡◌, ◌≤◌, ◌-◌, length, take}
use Rattle.lnbd_child.specs.Grown.{Grew}
use Rattle.lnbd_child.specs.Reading.{Parts}
use Rattle.lnbd_child.specs.Steps.{IsFront}
use Rattle.lnbd_child.specs.Touches.{Touches}
use Rattle.lnbd_child.proofs.reading.read_all.Given as goal

abbrev pub invariant-parts : goal.invariant-parts
invariant-parts g l = record {
  same : length l.bytes ≡ length l.fn.bytes;
  at : l.at ≤ length l.bytes;
  front : Touches l.file (IsFront (take l.at l.bytes)) (g.S.Store.shelf l.fn.store) (g.S.Store.shelf l.store);
  parts : Grew (g.S.Store.told l.fn.store) (g.S.Store.told l.store) (Parts l.file (length l.fn.bytes) (take l.at l.bytes));
  later : g.S.Store.faults l.fn.store ≤ g.S.Store.faults l.store;
}

abbrev pub decreases-parts : goal.decreases-parts
decreases-parts g l = length l.bytes - l.at
