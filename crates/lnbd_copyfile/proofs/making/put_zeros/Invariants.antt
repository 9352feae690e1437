use Rattle.std.proofs.Common.{◌≡◌, ◌≤◌, ◌-◌, replicate}
use Rattle.lnbd_touched.specs.Grown.{Grew, RoseBy}
use Rattle.lnbd_touched.specs.Parts.{Puts}
use Rattle.lnbd_touched.specs.Touches.{Touches}
use Rattle.lnbd_copyfile.specs.OneFile.{Writes}
use Rattle.lnbd_copyfile.proofs.making.put_zeros.Given as goal

abbrev pub invariant-parts : goal.invariant-parts
invariant-parts g l = record {
  at : l.at ≤ l.size;
  puts : Touches l.file (Puts l.offset (replicate l.at 0)) (g.S.Store.shelf l.fn.store) (g.S.Store.shelf l.store);
  writes : Grew (g.S.Store.told l.fn.store) (g.S.Store.told l.store) (Writes l.file);
  later : g.S.Store.faults l.fn.store ≤ g.S.Store.faults l.store;
  given : g.S.Store.given l.store ≡ g.S.Store.given l.fn.store;
  taken : RoseBy l.at (g.S.Store.taken l.fn.store) (g.S.Store.taken l.store);
}

abbrev pub decreases-parts : goal.decreases-parts
decreases-parts g l = l.size - l.at
