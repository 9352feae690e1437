use Rattle.std.proofs.Common.{◌≡◌, ◌≢◌, true}
use Rattle.lnbd_copy.specs.Awaiting.{AwaitsAll}
use Rattle.lnbd_copy.specs.Causes.{GoesOn}
use Rattle.lnbd_copy.specs.Copier.{IsOnItsWay}
use Rattle.lnbd_conduct.specs.Waiting.{WantsAll, WroteLittle, PausesAreFull, WaitsWell}
use Rattle.lnbd_copy.specs.Pace.{IsPaced}
use Rattle.lnbd_copy.specs.Patient.{HasWaited}
use Rattle.lnbd_conduct.specs.Pauses.{WantsOnlyFull, WantsOnlyEmpty, WantsSome}
use Rattle.lnbd_usage.specs.Pauses.{AtEachPause}
use Rattle.lnbd_copy.specs.Tried.{IsLeft, TriedBut}
use Rattle.lnbd_conduct.specs.Told.{Told}
use Rattle.lnbd_copy.specs.Connects.{LinksGoAsTold}
use Rattle.lnbd_conduct.specs.Changes.{Behaves}
use Rattle.lnbd_copy.proofs.AccountLemmas.{KeepsAccounts}
use Rattle.lnbd_copy.proofs.copier.Copier.copy.Given as goal

abbrev pub invariant-turns : goal.invariant-turns
invariant-turns g l = record {
  start : l.self.start ≡ record { faults = g.W.Wires.faults l.fn.wires; idles = g.W.Wires.idles l.fn.wires };
  kept : l.self ≡ record l.fn.self { start = l.self.start; held = l.self.held; board = l.self.board; job = l.self.job };
  on : IsOnItsWay (g.W.Wires.told l.fn.wires) (g.W.Wires.told l.wires) l.self;
  pauses : l.self.from ≢ l.self.to → Told (g.W.Wires.told l.fn.wires) (g.W.Wires.told l.wires) (PausesAreFull l.self.options l.self.from l.self.to);
  accounts : KeepsAccounts l.self (g.W.Wires.told l.fn.wires) (g.W.Wires.told l.wires);
  writes : Told (g.W.Wires.told l.fn.wires) (g.W.Wires.told l.wires) (AtEachPause WantsOnlyFull);
  connects : LinksGoAsTold l.fn.self.options l.fn.self.from l.fn.self.to l.fn.self.held (g.W.Wires.told l.fn.wires) l.self.held (g.W.Wires.told l.wires);
  fair : l.fn.self.from ≢ l.fn.self.to → Told (g.W.Wires.told l.fn.wires) (g.W.Wires.told l.wires) (Behaves l.fn.self.options l.fn.self.from l.fn.self.to);
  waits : Told (g.W.Wires.told l.fn.wires) (g.W.Wires.told l.wires) (AtEachPause WaitsWell);
  counts : GoesOn (g.W.Wires.faults l.fn.wires) (g.W.Wires.faults l.wires) (g.W.Wires.idles l.fn.wires) (g.W.Wires.idles l.wires) (g.W.Wires.contents l.fn.wires) (g.W.Wires.contents l.wires);
  reads : Told (g.W.Wires.told l.fn.wires) (g.W.Wires.told l.wires) (AtEachPause WantsOnlyEmpty);
  wanted : Told (g.W.Wires.told l.fn.wires) (g.W.Wires.told l.wires) (AtEachPause WantsSome);
  little : Told (g.W.Wires.told l.fn.wires) (g.W.Wires.told l.wires) (AtEachPause (WroteLittle l.fn.self.options.extents l.fn.self.from l.fn.self.to));
  wants_all : Told (g.W.Wires.told l.fn.wires) (g.W.Wires.told l.wires) (AtEachPause (WantsAll l.fn.self.options.extents l.fn.self.from l.fn.self.to));
  waited : Told (g.W.Wires.told l.fn.wires) (g.W.Wires.told l.wires) (HasWaited true (g.W.Wires.idles l.fn.wires) (g.W.Wires.idles l.wires));
  paced : Told (g.W.Wires.told l.fn.wires) (g.W.Wires.told l.wires) (IsPaced 1);
  awaits : Told (g.W.Wires.told l.fn.wires) (g.W.Wires.told l.wires) (λ calls. AwaitsAll l.self.job l.self.board);
  tried : Told (g.W.Wires.told l.fn.wires) (g.W.Wires.told l.wires) (TriedBut (IsLeft l.self.held));
}
