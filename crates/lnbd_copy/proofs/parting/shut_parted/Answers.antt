use Rattle.std.proofs.Common.{arith}
use Rattle.lnbd_copy.proofs.CauseLemmas.{goes_then}
use Rattle.lnbd_copy.proofs.IdleLemmas.{idly_then}
use Rattle.lnbd_copy.proofs.DecidingLemmas.{shut_then}
use Rattle.lnbd_copy.proofs.MovingLemmas.{happens_behind}
use Rattle.lnbd_copy.proofs.PartLemmas.{leaves_then}
use Rattle.lnbd_copy.proofs.PauseLemmas.{unpaused_then}
use Rattle.lnbd_copy.proofs.parting.shut_parted.Goals.{then-has_parted, else-has_parted}
use Rattle.lnbd_copy.proofs.LinkLemmas.{links_then}
use Rattle.lnbd_copy.proofs.parting.shut_parted.Goals as goal

pub handles-preserved : goal.handles-preserved
handles-preserved g c =
    let was = c.handles.invariant in
    let left = was.left in
    let few = was.few in
    elim c.if-has_parted.branch [
      | then-has_parted w ↦
          let fewer = w.hang_up.ensures.fewer in
          rw w.handles-is
          (rw w.board-is
          (rw w.wires-is
          (rw w.shut-is
          (record {
            left = omega (arith, left, fewer);
            unpaused = unpaused_then _ _ _ was.unpaused w.hang_up.ensures.unpaused;
            still = λ none. absurd (omega (arith, none));
            happens = λ some. happens_behind _ _ _ was.unpaused w.hang_up.ensures.happens;
            few = omega (arith, few);
            leaves = leaves_then _ _ _ _ _ _ _ _ _ was.leaves (w.hang_up.ensures.leaves (c.has_parted.ensures w.if-has_parted.true));
            shuts = shut_then _ _ _ was.shuts w.hang_up.ensures.shuts;
            links = links_then _ _ _ _ _ _ was.links w.hang_up.ensures.links;
            idly = idly_then _ _ _ was.idly w.hang_up.ensures.idly;
            counts = goes_then _ _ _ _ _ _ _ _ _ was.counts w.hang_up.ensures.counts;
          }))))
      | else-has_parted w ↦ rw w.handles-is (rw w.board-is (rw w.wires-is (rw w.shut-is (record { left = left; unpaused = was.unpaused; still = was.still; happens = was.happens; few = omega (arith, few); leaves = was.leaves; shuts = was.shuts; links = was.links; idly = was.idly; counts = was.counts }))))
    ]
