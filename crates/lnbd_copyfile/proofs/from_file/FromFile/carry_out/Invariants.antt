use Rattle.std.proofs.Common.{◌≡◌, ◌≤◌, true}
use Rattle.lnbd_copy.specs.Agreed.{IsWished}
use Rattle.lnbd_copy.specs.Causes.{GoesOn}
use Rattle.lnbd_touched.specs.Grown.{Grew}
use Rattle.lnbd_copyfile.specs.FromFile.{IsGoing, Runs}
use Rattle.lnbd_copyfile.specs.Linked.{UsesAsTold}
use Rattle.lnbd_copyfile.specs.OneFile.{Reads}
use Rattle.lnbd_copyfile.specs.SharingFrom.{HasShared}
use Rattle.lnbd_copyfile.proofs.from_file.FromFile.carry_out.Given as goal
use Rattle.lnbd_conduct.specs.Told.{Told}
use Rattle.lnbd_copyfile.specs.Given.{AsksOn}
use Rattle.lnbd_copyfile.specs.Shown.{HasShown}
use Rattle.lnbd_copyfile.specs.FromFilePauses.{IsFullSoFar}

abbrev pub invariant-turns : goal.invariant-turns
invariant-turns g l = record {
  uses : UsesAsTold true l.fn.self.start.idles l.fn.self.options l.to l.fn.self.held (g.W.Wires.told l.fn.wires) (g.W.Wires.idles l.fn.wires) l.self.held (g.W.Wires.told l.wires) (g.W.Wires.idles
      l.wires);
  kept : l.self ≡ record l.fn.self { held = l.self.held; board = l.self.board };
  runs : Runs l.job l.self;
  going : IsGoing l.to l.source.file l.job (g.W.Wires.told l.fn.wires) (g.W.Wires.told l.wires) l.self (g.S.Store.shelf l.fn.store) (g.S.Store.shelf l.store) (g.S.Store.given l.fn.store)
      (g.S.Store.given l.store);
  shared : HasShared l.fn.self.options l.to (g.W.Wires.told l.fn.wires) (g.W.Wires.told l.wires) l.job l.self;
  full : IsFullSoFar l.fn.self.options l.source.file l.to (g.W.Wires.told l.fn.wires) (g.W.Wires.told l.wires) l.job l.self (g.S.Store.shelf l.fn.store) (g.S.Store.shelf l.store)
      (g.S.Store.given l.fn.store) (g.S.Store.given l.store);
  size : l.job.terms.size ≡ l.source.size;
  wished : IsWished l.fn.self.options l.job.terms;
  counts : GoesOn (g.W.Wires.faults l.fn.wires) (g.W.Wires.faults l.wires) (g.W.Wires.idles l.fn.wires) (g.W.Wires.idles l.wires) (g.W.Wires.contents l.fn.wires) (g.W.Wires.contents l.wires);
  reads : Grew (g.S.Store.told l.fn.store) (g.S.Store.told l.store) (Reads l.source.file);
  later : g.S.Store.faults l.fn.store ≤ g.S.Store.faults l.store;
  taken : g.S.Store.taken l.store ≡ g.S.Store.taken l.fn.store;
  asked : Told (g.W.Wires.told l.fn.wires) (g.W.Wires.told l.wires) (AsksOn l.job.terms l.to);
  shown : HasShown l.fn.self.options l.source.size l.to (g.W.Wires.told l.fn.wires) (g.W.Wires.told l.wires) l.job.terms;
}
