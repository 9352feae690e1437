use Rattle.std.proofs.Common.{◌≡◌, ◌≤◌, false, length}
use Rattle.lnbd_copy.specs.Links.{HaveSameLinks}
use Rattle.lnbd_touched.specs.Grown.{Grew}
use Rattle.lnbd_copyfile.specs.OneFile.{Writes}
use Rattle.lnbd_copyfile.specs.ToFileJob.{Acts, Spreads}
use Rattle.lnbd_copyfile.proofs.to_file_job.ToFileJob.begin.Given as goal

abbrev pub invariant-slices : goal.invariant-slices
invariant-slices g l = record {
  links : HaveSameLinks l.fn.handles l.handles;
  kept : l.begun ≡ false → l.handles ≡ l.fn.handles;
  acts : Acts l.file l.fn.self l.self l.fn.board l.board l.fn.handles l.handles (g.S.Store.shelf l.fn.store) (g.S.Store.shelf l.store) (g.S.Store.taken l.fn.store) (g.S.Store.taken l.store);
  how : l.board.how ≡ l.self.terms.how;
  terms : l.self.terms ≡ l.fn.self.terms;
  copying : l.self.is_parting ≡ false;
  still : l.begun ≡ false → (l.self ≡ l.fn.self) × (l.board ≡ l.fn.board);
  count : length l.board.rows ≡ l.under_way;
  most : length l.fn.board.rows ≤ l.fn.self.terms.limit → length l.board.rows ≤ l.fn.self.terms.limit;
  spread : Spreads l.fn.self l.self l.fn.board l.board;
  writes : Grew (g.S.Store.told l.fn.store) (g.S.Store.told l.store) (Writes l.file);
  later : g.S.Store.faults l.fn.store ≤ g.S.Store.faults l.store;
  given : g.S.Store.given l.store ≡ g.S.Store.given l.fn.store;
  at : l.self.windows.at ≡ l.fn.self.windows.at;
}
