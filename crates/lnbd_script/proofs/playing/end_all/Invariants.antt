use Rattle.std.proofs.Common.{◌≡◌, ◌≤◌, ◌+◌, ◌*◌, List, length}
use Rattle.std.specs.Vec.Iter.{into_iter_items, into_iter_len}
use Rattle.lnbd_script.specs.Scenes.{Held}
use Rattle.lnbd_script.specs.Steps.{AreHeld}
use Rattle.lnbd_script.proofs.PlayLemmas.{Ending}
use Rattle.lnbd_script.proofs.playing.end_all.Given as goal

abbrev pub invariant-places : goal.invariant-places
invariant-places g l = record {
  ending : (handles : List Held) → AreHeld handles l.fn.places.items → Ending (g.W.Wires.told l.fn.wires) (g.W.Wires.told l.wires) handles (into_iter_items l.left) l.sum;
  lens : into_iter_len l.left ≡ length (into_iter_items l.left);
  opened_small : l.sum.opened + 18446744073709551616 * into_iter_len l.left ≤ 295147905179352825856;
  freed_small : l.sum.freed + 18446744073709551616 * into_iter_len l.left ≤ 295147905179352825856;
  faults_later : g.W.Wires.faults l.fn.wires ≤ g.W.Wires.faults l.wires;
  idles_later : g.W.Wires.idles l.fn.wires ≤ g.W.Wires.idles l.wires;
}

abbrev pub decreases-places : goal.decreases-places
decreases-places g l = into_iter_len l.left
