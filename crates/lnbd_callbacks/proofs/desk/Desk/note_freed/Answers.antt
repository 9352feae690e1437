use Rattle.std.proofs.Common.{arith}
use Rattle.lnbd_callbacks.proofs.LiveLemmas.{owed_by-without, owed_for-positive}
use Rattle.lnbd_callbacks.proofs.SoundLemmas.{IsSound-end}
use Rattle.lnbd_callbacks.proofs.desk.Desk.note_freed.Goals as goal

pub push_reserved-requires : goal.push_reserved-requires
push_reserved-requires c = let e = owed_by-without c.args.number c.args.completed c.self.inside.live.entries (rw (← c.self.view_is) at c.requires) in let fits = c.self.invariant.fits in let owes = c.self.invariant.owes in let one = owed_for-positive c.args.completed in omega arith

pub overflow_sub-self : goal.overflow_sub-self
overflow_sub-self c = let e = owed_by-without c.args.number c.args.completed c.self.inside.live.entries (rw (← c.self.view_is) at c.requires) in let owes = c.self.invariant.owes in let is = c.owed_for.ensures in omega arith

pub invariant_of-self : goal.invariant_of-self
invariant_of-self c = rw (c.strike.ensures, c.push_reserved.ensures.len, c.push_reserved.ensures.capacity, c.owed_for.ensures) (IsSound-end _ _ _ _ _ c.args.number c.args.completed c.self.inside.live.entries c.self.invariant (rw (← c.self.view_is) at c.requires))
