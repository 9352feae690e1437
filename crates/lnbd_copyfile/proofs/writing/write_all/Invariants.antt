use Rattle.std.proofs.Common.{◌≡◌, ◌≤◌, ◌-◌, ℕ, length, take}
use Rattle.lnbd_touched.specs.Grown.{Grew, RoseBy}
use Rattle.lnbd_touched.specs.Parts.{Puts}
use Rattle.lnbd_touched.specs.Touches.{Touches}
use Rattle.lnbd_copyfile.specs.Calls.{Moves}
use Rattle.lnbd_copyfile.specs.OneFile.{Writes}
use Rattle.lnbd_copyfile.proofs.writing.write_all.Given as goal

abbrev pub invariant-parts : goal.invariant-parts
invariant-parts g l = record {
  at : l.at ≤ length l.bytes;
  puts : Touches l.file (Puts l.offset (take l.at l.bytes)) (g.S.Store.shelf l.fn.store) (g.S.Store.shelf l.store);
  moves : (cell size from : ℕ) → length l.bytes ≤ cell → Grew (g.S.Store.told l.fn.store) (g.S.Store.told l.store) (Moves cell size from l.file);
  writes : Grew (g.S.Store.told l.fn.store) (g.S.Store.told l.store) (Writes l.file);
  later : g.S.Store.faults l.fn.store ≤ g.S.Store.faults l.store;
  given : g.S.Store.given l.store ≡ g.S.Store.given l.fn.store;
  taken : RoseBy l.at (g.S.Store.taken l.fn.store) (g.S.Store.taken l.store);
}

abbrev pub decreases-parts : goal.decreases-parts
decreases-parts g l = length l.bytes - l.at
