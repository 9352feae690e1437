use Rattle.std.proofs.Common.{◌≡◌, ◌≤◌, false, length, not}
use Rattle.lnbd_copy.specs.Links.{HaveSameLinks}
use Rattle.lnbd_touched.specs.Grown.{Grew}
use Rattle.lnbd_copyfile.specs.Binding.{Deals}
use Rattle.lnbd_copyfile.specs.OneFile.{Reads}
use Rattle.lnbd_copyfile.specs.Sending.{Sends}
use Rattle.lnbd_copyfile.proofs.sending.Bindings.begin.Given as goal

abbrev pub invariant-slices : goal.invariant-slices
invariant-slices g l = record {
  zeros : l.windows.plan.cells.zeros ≡ not l.board.how.skip;
  windows : l.windows ≡ record l.fn.windows { plan = record l.fn.windows.plan { slices = l.windows.plan.slices } };
  links : HaveSameLinks l.fn.handles l.handles;
  kept : l.begun ≡ false → l.handles ≡ l.fn.handles;
  begins : Sends l.source.file l.fn.windows l.windows l.fn.board l.board l.fn.handles l.handles (g.S.Store.shelf l.fn.store) (g.S.Store.shelf l.store) (g.S.Store.given l.fn.store) (g.S.Store.given l.store);
  deals : Deals l.limit l.fn.self l.self l.fn.board l.board;
  most : length l.fn.board.rows ≤ l.limit → length l.board.rows ≤ l.limit;
  count : length l.board.rows ≡ l.under_way;
  reads : Grew (g.S.Store.told l.fn.store) (g.S.Store.told l.store) (Reads l.source.file);
  later : g.S.Store.faults l.fn.store ≤ g.S.Store.faults l.store;
  taken : g.S.Store.taken l.store ≡ g.S.Store.taken l.fn.store;
}
