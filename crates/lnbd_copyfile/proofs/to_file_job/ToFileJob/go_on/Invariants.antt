use Rattle.std.proofs.Common.{◌≡◌, ◌≤◌, List}
use Rattle.lnbd_poll.specs.Held.{Held}
use Rattle.lnbd_board.specs.declared.ticket.Ticket.{Ticket}
use Rattle.lnbd_touched.specs.Grown.{Grew}
use Rattle.lnbd_copyfile.specs.Making.{MakesChanges}
use Rattle.lnbd_copyfile.specs.OneFile.{Writes}
use Rattle.lnbd_copyfile.specs.ToFileJob.{Acts, Spreads}
use Rattle.lnbd_copyfile.proofs.to_file_job.ToFileJob.go_on.Given as goal

abbrev pub invariant-slices : goal.invariant-slices
invariant-slices g l = record {
  acts : (held : List (Held Ticket)) → Acts l.file l.fn.self l.self l.fn.board l.board held held (g.S.Store.shelf l.fn.store) (g.S.Store.shelf l.store) (g.S.Store.taken l.fn.store)
      (g.S.Store.taken l.store);
  job : l.self ≡ record l.fn.self { bound = l.self.bound };
  how : l.board.how ≡ l.fn.board.how;
  makes : MakesChanges l.fn.board.how l.file l.fn.board l.board (g.S.Store.shelf l.fn.store) (g.S.Store.shelf l.store) (g.S.Store.taken l.fn.store) (g.S.Store.taken l.store);
  spread : Spreads l.fn.self l.self l.fn.board l.board;
  writes : Grew (g.S.Store.told l.fn.store) (g.S.Store.told l.store) (Writes l.file);
  later : g.S.Store.faults l.fn.store ≤ g.S.Store.faults l.store;
  given : g.S.Store.given l.store ≡ g.S.Store.given l.fn.store;
}
