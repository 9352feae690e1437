use Rattle.std.proofs.Common.{◌≡◌, ◌<◌, ℕ, length, Ok}
use Rattle.lnbd_poll.specs.Seen.{Seen}
use Rattle.lnbd_waits.specs.Waits.{Holds}
use Rattle.lnbd_dump.specs.declared.reader.Reader.{Reader}
use Rattle.lnbd_dump.specs.Filling.{AreInOrder, Continues, FollowEach}
use Rattle.lnbd_dump.specs.Leads.{Acts}
use Rattle.lnbd_dump.proofs.filling.fill.Given as goal

abbrev pub invariant-ahead : goal.invariant-ahead
invariant-ahead l = record {
  reached : (seen : Seen Reader) × Holds l.handles seen;
  begins : Acts l.fn.handles l.handles (λ before after. Continues {A = Unit {0}} (Ok tt) l.fn.plan l.fn.runs l.fn.reel l.fn.world before.history l.plan l.runs l.reel l.world after.history);
  order : AreInOrder l.plan.at l.runs l.plan.known;
  follow : (from : ℕ) → FollowEach from l.fn.reel l.fn.plan.at → FollowEach from l.reel l.plan.at;
  same : l.plan ≡ record l.fn.plan { at = l.plan.at };
  some : 0 < l._i → 0 < length l.reel;
  none : l._i ≡ 0 → l.runs ≡ l.fn.runs;
}
