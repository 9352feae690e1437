use Rattle.std.proofs.Common.{◌≡◌, List, [], vec_len}
use Rattle.lnbd_script.specs.Scenes.{Held}
use Rattle.lnbd_script.specs.Seen.{Counts}
use Rattle.lnbd_script.specs.Steps.{AreHeld}
use Rattle.lnbd_script.proofs.RoundLemmas.{Passing}
use Rattle.lnbd_script.proofs.rounds.round.Given as goal

abbrev pub invariant-places : goal.invariant-places
invariant-places g l = record {
  passing : (handles : List Held) → AreHeld handles l.fn.places.items → Passing (g.W.Wires.told l.fn.wires) (g.W.Wires.told l.wires) handles l.fn.first l.places.items l.first l.i l.stirred;
  count : vec_len l.places ≡ vec_len l.fn.places;
  counts : Counts l.fn.first l.first (g.W.Wires.faults l.fn.wires) (g.W.Wires.faults l.wires) (g.W.Wires.idles l.fn.wires) (g.W.Wires.idles l.wires);
  unread : l.inbox ≡ [];
}
