use Rattle.std.proofs.Common.{◌+◌, [], ◌∷◌, ◌++◌, arith, false}
use Rattle.lnbd_keyed.proofs.KeyedLemmas.{value_at_last, value_at_left}
use Rattle.lnbd_callbacks.proofs.LiveLemmas.{IsBelow-next}
use Rattle.lnbd_callbacks.proofs.SoundLemmas.{IsSound-admissions}
use Rattle.lnbd_callbacks.proofs.desk.Desk.admit_two.Goals as goal

pub invariant_of-self-2 : goal.invariant_of-self-2
invariant_of-self-2 g c = let below = c.if-self-ge-MOST_CALLBACKS.false in rw c.in-Ok-enlist_two.ensures.ok (IsSound-admissions _ c.self.inside.room c.self.inside.owed _ c.self.inside.admitted c.self.inside.live.entries c.in-Ok.ensures.ok c.self.invariant.owes c.self.invariant.numbered (grind arith))

pub returns-clause-first_live : goal.returns-clause-first_live
returns-clause-first_live g c =
    let there = value_at_last (c.self.inside.admitted + 1) false c.self.inside.live.entries c.self.invariant.numbered in
    rw (c.new.ensures, c.in-Ok-enlist_two.ensures.ok) (value_at_left (c.self.inside.admitted + 1) false (c.self.inside.live.entries ++ (c.self.inside.admitted + 1, false) ∷ []) ((c.self.inside.admitted + 1 + 1, false) ∷ []) there)

pub returns-clause-done_live : goal.returns-clause-done_live
returns-clause-done_live g c = rw (c.new-2.ensures, c.in-Ok-enlist_two.ensures.ok) (value_at_last (c.self.inside.admitted + 1 + 1) false (c.self.inside.live.entries ++ (c.self.inside.admitted + 1, false) ∷ []) (IsBelow-next (c.self.inside.admitted + 1) false c.self.inside.live.entries c.self.invariant.numbered))
