use Rattle.std.proofs.Common.{[], true, Some}
use Rattle.lnbd_copy.specs.Deciding.{IsCalm}
use Rattle.lnbd_copy.specs.Causes.{GoesOn}
use Rattle.lnbd_copy.specs.Pace.{StaysPaced}
use Rattle.lnbd_copy.specs.Patient.{StaysPatient}
use Rattle.lnbd_copy.specs.Pauses.{Pauses, WantsInVain}
use Rattle.lnbd_copy.specs.Way.{Goes, Stand}
use Rattle.lnbd_copy.specs.Tried.{IsLeftEarly, Tries}
use Rattle.lnbd_copy.specs.Unready.{StaysUnready}
use Rattle.lnbd_copy.specs.Little.{StaysLittle}
use Rattle.lnbd_conduct.specs.Pauses.{WantsSome}
use Rattle.lnbd_copy.specs.Links.{LinksGo}
use Rattle.lnbd_copy.specs.Faults.{StaysFresh}
use Rattle.lnbd_copy.proofs.dialing.settle.Given as goal

abbrev pub invariant-turns : goal.invariant-turns
invariant-turns g l = record {
  goes : Goes l.fn.board l.fn.handles (g.W.Wires.told l.fn.wires) l.board l.handles (g.W.Wires.told l.wires);
  unready : StaysUnready l.fn.board l.fn.handles (g.W.Wires.told l.fn.wires) (g.W.Wires.told l.wires);
  vain : Stand l.fn.handles → Pauses WantsInVain (g.W.Wires.told l.fn.wires) (g.W.Wires.told l.wires);
  links : Stand l.fn.handles → LinksGo [] l.fn.handles (g.W.Wires.told l.fn.wires) l.handles (g.W.Wires.told l.wires);
  fresh : StaysFresh l.fn.board l.fn.handles (g.W.Wires.told l.fn.wires) l.board l.handles (g.W.Wires.told l.wires);
  counts : GoesOn (g.W.Wires.faults l.fn.wires) (g.W.Wires.faults l.wires) (g.W.Wires.idles l.fn.wires) (g.W.Wires.idles l.wires) (g.W.Wires.contents l.fn.wires) (g.W.Wires.contents l.wires);
  wanted : Stand l.fn.handles → Pauses WantsSome (g.W.Wires.told l.fn.wires) (g.W.Wires.told l.wires);
  little : StaysLittle l.fn.board l.fn.handles (g.W.Wires.told l.fn.wires) (g.W.Wires.told l.wires);
  patient : Stand l.fn.handles → StaysPatient true l.fn.start.idles (g.W.Wires.told l.fn.wires) (g.W.Wires.idles l.fn.wires) (g.W.Wires.told l.wires) (g.W.Wires.idles l.wires);
  paced : StaysPaced 1 l.fn.board l.fn.handles (g.W.Wires.told l.fn.wires) (g.W.Wires.told l.wires);
  tries : Stand l.fn.handles → Tries (IsLeftEarly l.handles) (g.W.Wires.told l.fn.wires) (g.W.Wires.told l.wires);
  calm : IsCalm (Some l.fn.sides) l.board l.handles;
}
