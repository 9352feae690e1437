use Rattle.std.proofs.Common.{◌≡◌, ◌≤◌, [], true, List, Option}
use Rattle.lnbd_copy.specs.Causes.{GoesOn}
use Rattle.lnbd_connections.specs.Uses.{Uses}
use Rattle.lnbd_touched.specs.Grown.{Grew}
use Rattle.lnbd_copyfile.specs.Hearing.{HearsTo}
use Rattle.lnbd_copyfile.specs.OneFile.{Writes}
use Rattle.lnbd_copyfile.specs.Taking.{ReadsNoMore}
use Rattle.lnbd_copyfile.specs.ToFile.{GoesFurther, IsReady}
use Rattle.lnbd_copyfile.specs.ToFilePauses.{GoesFull}
use Rattle.lnbd_copyfile.proofs.to_file.take_turns.Given as goal
use Rattle.lnbd_link.specs.Call.{Call}
use Rattle.lnbd_conduct.specs.declared.terms.Terms.{Terms}
use Rattle.lnbd_connections.specs.Few.{StaysFew}
use Rattle.lnbd_copyfile.specs.Sharing.{IsSharing, share}

abbrev pub invariant-turns : goal.invariant-turns
invariant-turns g l = record {
  uses : Uses true l.fn.start.idles [] l.fn.handles (g.W.Wires.told l.fn.wires) (g.W.Wires.idles l.fn.wires) l.handles (g.W.Wires.told l.wires) (g.W.Wires.idles l.wires);
  full : GoesFull l.fn.file l.fn.job l.fn.board l.fn.handles (g.W.Wires.told l.fn.wires) (g.S.Store.shelf l.fn.store) (g.S.Store.taken l.fn.store) l.job l.board l.handles
      (g.W.Wires.told l.wires) (g.S.Store.shelf l.store) (g.S.Store.taken l.store);
  ready : IsReady l.job l.board l.handles;
  on : GoesFurther l.fn.file l.fn.job l.fn.board l.fn.handles (g.W.Wires.told l.fn.wires) (g.S.Store.shelf l.fn.store) (g.S.Store.taken l.fn.store) l.job l.board l.handles
      (g.W.Wires.told l.wires) (g.S.Store.shelf l.store) (g.S.Store.taken l.store);
  sharing : (terms : Terms) (from : Option (List Call)) → IsSharing terms from (g.W.Wires.told l.fn.wires) l.fn.job l.fn.board l.fn.handles →
      IsSharing terms from (g.W.Wires.told l.wires) l.job l.board l.handles;
  few : (terms : Terms) (from : Option (List Call)) → IsSharing terms from (g.W.Wires.told l.fn.wires) l.fn.job l.fn.board l.fn.handles →
      StaysFew (share terms) from (g.W.Wires.told l.fn.wires) (g.W.Wires.told l.wires);
  terms : l.job.terms ≡ l.fn.job.terms;
  writes : Grew (g.S.Store.told l.fn.store) (g.S.Store.told l.store) (Writes l.fn.file);
  asks : ReadsNoMore l.fn.file l.fn.job l.fn.board l.fn.handles (g.W.Wires.told l.fn.wires) (g.S.Store.shelf l.fn.store) (g.S.Store.taken l.fn.store) (g.W.Wires.told l.wires);
  counts : GoesOn (g.W.Wires.faults l.fn.wires) (g.W.Wires.faults l.wires) (g.W.Wires.idles l.fn.wires) (g.W.Wires.idles l.wires) (g.W.Wires.contents l.fn.wires) (g.W.Wires.contents l.wires);
  later : g.S.Store.faults l.fn.store ≤ g.S.Store.faults l.store;
  hears : HearsTo l.fn.file l.fn.job l.fn.board l.fn.handles (g.W.Wires.told l.fn.wires) (g.S.Store.shelf l.fn.store) (g.S.Store.taken l.fn.store) l.job.windows.at (g.W.Wires.told l.wires);
}
