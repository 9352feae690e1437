use Rattle.std.proofs.Common.{List, length, ap, arith}
use Rattle.lnbd_poll.specs.Held.{Held}
use Rattle.lnbd_board.specs.declared.ticket.Ticket.{Ticket}
use Rattle.lnbd_copy.proofs.CauseLemmas.{goes_then}
use Rattle.lnbd_copy.proofs.DecidingLemmas.{shut_then}
use Rattle.lnbd_copy.proofs.IdleLemmas.{idly_then}
use Rattle.lnbd_copy.proofs.LastLemmas.{lasts_then}
use Rattle.lnbd_copy.proofs.LinkLemmas.{links_then}
use Rattle.lnbd_copy.proofs.PauseLemmas.{unpaused_then}
use Rattle.lnbd_copy.proofs.parting.shut_all.Goals as goal

pub handles-preserved : goal.handles-preserved
handles-preserved g c =
    let fewer = c.hang_up.ensures.fewer in
    record {
      counts = goes_then _ _ _ _ _ _ _ _ _ c.handles.invariant.counts c.hang_up.ensures.counts;
      links = links_then _ _ _ _ _ _ c.handles.invariant.links c.hang_up.ensures.links;
      idly = idly_then _ _ _ c.handles.invariant.idly c.hang_up.ensures.idly;
      lasts = lasts_then _ _ _ c.handles.invariant.lasts c.hang_up.ensures.lasts;
      shuts = shut_then _ _ _ c.handles.invariant.shuts c.hang_up.ensures.shuts;
      unpaused = unpaused_then _ _ _ c.handles.invariant.unpaused c.hang_up.ensures.unpaused;
      none = λ e. (let zero = ap (λ (l : List (Held Ticket)). length l) (c.handles.invariant.none e) in absurd (omega (arith, fewer, zero)));
      same = λ e. (let zero = ap (λ (l : List (Held Ticket)). length l) (c.handles.invariant.none e) in absurd (omega (arith, fewer, zero)));
    }
