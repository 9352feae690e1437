use Rattle.std.proofs.Common.{◌≡◌, ◌<◌, ◌≤◌, ◌-◌, ◌%◌, length}
use Rattle.lnbd_touched.specs.Both.{Both}
use Rattle.lnbd_touched.specs.Grown.{Grew, RoseBy}
use Rattle.lnbd_copyfile.specs.Calls.{Moves}
use Rattle.lnbd_copyfile.specs.Steps.{Moved}
use Rattle.lnbd_copyfile.proofs.filling.move_slices.Given as goal

abbrev pub invariant-slices : goal.invariant-slices
invariant-slices g l = record {
  same : length l.buffer ≡ length l.fn.buffer;
  at : l.at ≤ l.way.size;
  begins : l.at < l.way.size → l.at % l.way.cell ≡ 0;
  few : l.written ≤ l.read;
  low : l.read ≤ l.at;
  all : l.way.block ≡ 0 → l.written ≡ l.at;
  moved : Both l.way.from l.to (Moved l.way.cell l.way.block l.way.size 0 l.at l.written) (g.S.Store.shelf l.fn.store) (g.S.Store.shelf l.store);
  moves : Grew (g.S.Store.told l.fn.store) (g.S.Store.told l.store) (Moves l.way.cell l.way.size l.way.from l.to);
  later : g.S.Store.faults l.fn.store ≤ g.S.Store.faults l.store;
  given : RoseBy l.read (g.S.Store.given l.fn.store) (g.S.Store.given l.store);
  taken : RoseBy l.written (g.S.Store.taken l.fn.store) (g.S.Store.taken l.store);
}

abbrev pub decreases-slices : goal.decreases-slices
decreases-slices g l = l.way.size - l.at
