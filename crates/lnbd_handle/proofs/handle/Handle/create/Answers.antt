use Rattle.std.proofs.Common.{rules, ◌≡◌, Option, length, sym, ap, subst, arith}
use Rattle.std.specs.Prelude.{IfSome}
use Rattle.lnbd_history.specs.Arrivals.{shows_ignored}
use Rattle.lnbd_outgoing.specs.Queue.{waits, AllFit}
use Rattle.lnbd_handle.specs.Seen.{AreAhead, writes_in, flies_in, ends_in}
use Rattle.lnbd_arrivals.specs.Frames.{front_size, replies_by}
use Rattle.lnbd_arrivals.specs.declared.announced.Announced.{Announced}
use Rattle.lnbd_handle.proofs.AnnouncedLemmas.{none_came}
use Rattle.lnbd_handle.proofs.handle.Handle.create.Goals as goal

pub invariant_of-result : goal.invariant_of-result
invariant_of-result g c = (
  record {
    fits = subst (λ q. AllFit (writes_in c.new-4.result) q.pieces) (sym c.in_ok-queue.ensures) tt;
    ahead = subst (λ q. AreAhead (flies_in c.new-4.result) 0 q.pieces) (sym c.in_ok-queue.ensures) tt;
    stands = ap (λ q. q.ended) c.in_ok-queue.ensures;
    counted = let n : ends_in (waits (writes_in c.new-4.result) c.in_ok-queue.queue) ≡ 0 = ap (λ q. ends_in (waits (writes_in c.new-4.result) q)) c.in_ok-queue.ensures in omega (arith, n);
  },
  ap shows_ignored c.in_ok-pending.ensures.empty,
  record {
    kept = c.in_ok-pending.ensures.kept;
    fits = search rules;
    ordered = search rules;
    said = record {
      says = c.in_ok-pending.ensures.none;
      alone = subst (λ (o : Option Announced). IfSome o (λ a. length c.in_ok-pending.pending.head.items ≡ front_size (replies_by c.new-talk.result.structured c.new-talk.result.extended))) (sym c.in_ok-pending.ensures.none) tt;
      none = λ e. (none_came c.in_ok-pending.pending c.in_ok-pending.ensures.kept c.in_ok-pending.ensures.empty).0;
    };
  },
)
