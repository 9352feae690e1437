use Rattle.std.proofs.Common.{List, length, ap, arith}
use Rattle.lnbd_poll.specs.Held.{Held}
use Rattle.lnbd_board.specs.declared.ticket.Ticket.{Ticket}
use Rattle.lnbd_copy.proofs.CauseLemmas.{goes_then}
use Rattle.lnbd_copy.proofs.PauseLemmas.{unpaused_then}
use Rattle.lnbd_connections.proofs.UseLemmas.{uses_then}
use Rattle.lnbd_copy.proofs.IdleLemmas.{idly_then}
use Rattle.lnbd_connections.proofs.parting.shut_all.Goals as goal

pub handles-preserved : goal.handles-preserved
handles-preserved g c =
    let fewer = c.hang_up.ensures.fewer in
    record {
      unpaused = unpaused_then _ _ _ c.handles.invariant.unpaused c.hang_up.ensures.unpaused;
      uses = λ first. uses_then _ _ _ _ _ _ _ _ _ _ _ (c.handles.invariant.uses first) (c.hang_up.ensures.uses first);
      counts = goes_then _ _ _ _ _ _ _ _ _ c.handles.invariant.counts c.hang_up.ensures.counts;
      asks = idly_then _ _ _ c.handles.invariant.asks c.hang_up.ensures.asks;
      idly = idly_then _ _ _ c.handles.invariant.idly c.hang_up.ensures.idly;
      none = λ e. (let zero = ap (λ (l : List (Held Ticket)). length l) (c.handles.invariant.none e) in absurd (omega (arith, fewer, zero)));
      same = λ e. (let zero = ap (λ (l : List (Held Ticket)). length l) (c.handles.invariant.none e) in absurd (omega (arith, fewer, zero)));
    }
