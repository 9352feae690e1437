use Rattle.std.proofs.Common.{◌≡◌, ◌≤◌}
use Rattle.lnbd_touched.specs.Grown.{Grew}
use Rattle.lnbd_copyfile.specs.OneFile.{Writes}
use Rattle.lnbd_copyfile.specs.Making.{MakesChanges}
use Rattle.lnbd_copy.specs.Bound.{on_source}
use Rattle.lnbd_copyfile.proofs.desk.go_on.Given as goal

abbrev pub invariant-steps : goal.invariant-steps
invariant-steps g l = record {
  makes : MakesChanges l.fn.board.how l.file l.fn.board l.board (g.S.Store.shelf l.fn.store) (g.S.Store.shelf l.store) (g.S.Store.taken l.fn.store) (g.S.Store.taken l.store);
  writes : Grew (g.S.Store.told l.fn.store) (g.S.Store.told l.store) (Writes l.file);
  how : l.board.how ≡ l.fn.board.how;
  sources : on_source l.board.rows ≡ on_source l.fn.board.rows;
  later : g.S.Store.faults l.fn.store ≤ g.S.Store.faults l.store;
  given : g.S.Store.given l.store ≡ g.S.Store.given l.fn.store;
}
