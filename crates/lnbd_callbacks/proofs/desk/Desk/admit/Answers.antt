use Rattle.std.proofs.Common.{◌+◌, arith, false}
use Rattle.lnbd_keyed.proofs.KeyedLemmas.{value_at_last}
use Rattle.lnbd_callbacks.proofs.SoundLemmas.{IsSound-admission}
use Rattle.lnbd_callbacks.proofs.desk.Desk.admit.Goals as goal

pub invariant_of-self-2 : goal.invariant_of-self-2
invariant_of-self-2 g c = let below = c.if-self-ge-MOST_CALLBACKS.false in rw c.in-Ok-enlist.ensures.ok (IsSound-admission _ c.self.inside.room c.self.inside.owed _ c.self.inside.admitted c.self.inside.live.entries c.in-Ok.ensures.ok c.self.invariant.owes c.self.invariant.numbered (grind arith))

pub returns-clause-live : goal.returns-clause-live
returns-clause-live g c = rw (c.new.ensures, c.in-Ok-enlist.ensures.ok) (value_at_last (c.self.inside.admitted + 1) false c.self.inside.live.entries c.self.invariant.numbered)
