use Rattle.std.proofs.Common.{◌≡◌, ◌≤◌, List, vec_len}
use Rattle.lnbd_link.specs.Contents.{Keeps}
use Rattle.lnbd_poll.specs.Held.{AreAt, all_held}
use Rattle.lnbd_poll.specs.Seen.{Seen}
use Rattle.lnbd_poll.proofs.TurnLemmas.{Passing}
use Rattle.lnbd_poll.proofs.held.turn_all.Given as goal

abbrev pub invariant-handles : goal.invariant-handles
invariant-handles g l = record {
  passing : (seen : List (Seen g.row.K.Denot)) → AreAt (all_held l.fn.all.items) seen → Passing g.K.Caller.steps (g.W.Wires.told l.fn.wires) (g.W.Wires.told l.wires) (g.W.Wires.faults l.fn.wires) (g.W.Wires.faults l.wires) l.turn seen l.fn.world (all_held l.all.items) l.i l.world;
  count : vec_len l.all ≡ vec_len l.fn.all;
  contents : Keeps (g.W.Wires.contents l.fn.wires) (g.W.Wires.contents l.wires);
  faults_later : g.W.Wires.faults l.fn.wires ≤ g.W.Wires.faults l.wires;
  idles_later : g.W.Wires.idles l.fn.wires ≤ g.W.Wires.idles l.wires;
}
