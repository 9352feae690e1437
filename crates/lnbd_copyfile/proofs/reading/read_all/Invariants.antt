use Rattle.std.proofs.Common.{◌≡◌, ◌≤◌, ◌-◌, ℕ, length, take}
use Rattle.lnbd_touched.specs.Grown.{Grew, RoseBy}
use Rattle.lnbd_touched.specs.Parts.{Tells}
use Rattle.lnbd_touched.specs.Touches.{Touches}
use Rattle.lnbd_copyfile.specs.Calls.{Moves}
use Rattle.lnbd_copyfile.specs.OneFile.{Reads}
use Rattle.lnbd_copyfile.specs.Steps.{IsSlice}
use Rattle.lnbd_copyfile.proofs.reading.read_all.Given as goal

abbrev pub invariant-parts : goal.invariant-parts
invariant-parts g l = record {
  same : length l.bytes ≡ length l.fn.bytes;
  at : l.at ≤ length l.bytes;
  tells : Touches l.file (Tells l.offset (take l.at l.bytes)) (g.S.Store.shelf l.fn.store) (g.S.Store.shelf l.store);
  moves : (cell to : ℕ) → IsSlice cell l.size l.offset (length l.fn.bytes) → Grew (g.S.Store.told l.fn.store) (g.S.Store.told l.store) (Moves cell l.size l.file to);
  reads : Grew (g.S.Store.told l.fn.store) (g.S.Store.told l.store) (Reads l.file);
  later : g.S.Store.faults l.fn.store ≤ g.S.Store.faults l.store;
  given : RoseBy l.at (g.S.Store.given l.fn.store) (g.S.Store.given l.store);
  taken : g.S.Store.taken l.store ≡ g.S.Store.taken l.fn.store;
}

abbrev pub decreases-parts : goal.decreases-parts
decreases-parts g l = length l.bytes - l.at
