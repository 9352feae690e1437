use Rattle.std.proofs.Common.{◌≡◌, ◌≤◌, ◌+◌, All, List, length, vec_len, vec_capacity}
use Rattle.std.specs.Vec.Iter.{into_iter_items, into_iter_len}
use Rattle.lnbd_poll.specs.Held.{AreAt, all_held}
use Rattle.lnbd_poll.specs.Seen.{Seen}
use Rattle.lnbd_poll.proofs.HeldLemmas.{Closing}
use Rattle.lnbd_poll.proofs.held.close_all.Given as goal

abbrev pub invariant-handles : goal.invariant-handles
invariant-handles g l = record {
  closing : (seen : List (Seen g.row.K.Denot)) → AreAt (all_held l.fn.all.items) seen → Closing g.K.Caller.steps seen l.fn.world (all_held (into_iter_items l.left)) l.closed.items l.world;
  lens : into_iter_len l.left ≡ length (into_iter_items l.left);
  count : vec_len l.closed + into_iter_len l.left ≡ vec_len l.fn.all;
  room : vec_len l.fn.all ≤ vec_capacity l.closed;
  equal : All (λ closed. closed.opened ≡ closed.freed) l.closed.items;
}

abbrev pub decreases-handles : goal.decreases-handles
decreases-handles g l = into_iter_len l.left
