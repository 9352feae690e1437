use Rattle.std.proofs.Common.{◌≡◌, false, List}
use Rattle.lnbd_poll.specs.Held.{Held}
use Rattle.lnbd_board.specs.declared.ticket.Ticket.{Ticket}
use Rattle.lnbd_board.specs.Files as board
use Rattle.lnbd_touched.specs.Grown.{Grew}
use Rattle.lnbd_copyfile.specs.FromFileJob.{Acts}
use Rattle.lnbd_copyfile.specs.OneFile.{Reads}
use Rattle.lnbd_copyfile.proofs.from_file_job.FromFileJob.hear.Given as goal

abbrev pub invariant-parts : goal.invariant-parts
invariant-parts g l = record {
  acts : (now : board.Seen) (held : List (Held Ticket)) → Acts l.file l.fn.self l.self now now held held (g.S.Store.shelf l.fn.store) (g.S.Store.shelf l.store) (g.S.Store.given l.fn.store)
      (g.S.Store.given l.store);
  others : l.self ≡ record l.fn.self { windows = l.self.windows };
  ends : l.self.windows.size ≡ l.fn.self.windows.size;
  still : l.heard ≡ false → l.self ≡ l.fn.self;
  reads : Grew (g.S.Store.told l.fn.store) (g.S.Store.told l.store) (Reads l.file);
  faults : g.S.Store.faults l.store ≡ g.S.Store.faults l.fn.store;
  given : g.S.Store.given l.store ≡ g.S.Store.given l.fn.store;
  taken : g.S.Store.taken l.store ≡ g.S.Store.taken l.fn.store;
}
