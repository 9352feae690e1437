use Rattle.std.proofs.Common.{arith}
use Rattle.lnbd_copy.proofs.CauseLemmas.{goes_then}
use Rattle.lnbd_copy.proofs.IdleLemmas.{idly_then}
use Rattle.lnbd_connections.proofs.StepLemmas.{leaves_then}
use Rattle.lnbd_connections.proofs.UseLemmas.{uses_then}
use Rattle.lnbd_connections.proofs.parting.shut_parted.Goals.{then-has_parted, else-has_parted}
use Rattle.lnbd_connections.proofs.parting.shut_parted.Goals as goal
use Rattle.lnbd_copy.proofs.PauseLemmas.{unpaused_then}

pub handles-preserved : goal.handles-preserved
handles-preserved g c =
    let was = c.handles.invariant in
    let left = was.left in
    let few = was.few in
    elim c.if-has_parted.branch [
      | then-has_parted w ↦
          let fewer = w.hang_up.ensures.fewer in
          rw w.handles-is
          (rw w.board-is
          (rw w.wires-is
          (rw w.shut-is
          (record {
            uses = λ first. uses_then _ _ _ _ _ _ _ _ _ _ _ (was.uses first) (w.hang_up.ensures.uses first);
            unpaused = unpaused_then _ _ _ was.unpaused w.hang_up.ensures.unpaused;
            still = λ none. absurd (omega (arith, none));
            left = omega (arith, left, fewer);
            few = omega (arith, few);
            leaves = leaves_then _ _ _ _ _ _ _ _ _ was.leaves w.hang_up.ensures.leaves;
            idly = idly_then _ _ _ was.idly w.hang_up.ensures.idly;
            counts = goes_then _ _ _ _ _ _ _ _ _ was.counts w.hang_up.ensures.counts;
            asks = idly_then _ _ _ was.asks w.hang_up.ensures.asks;
          }))))
      | else-has_parted w ↦ rw w.handles-is (rw w.board-is (rw w.wires-is (rw w.shut-is (record { uses = was.uses; still = was.still; left = left; few = omega (arith, few); leaves = was.leaves; counts = was.counts; asks = was.asks; idly = was.idly; unpaused = was.unpaused }))))
    ]
