use Rattle.std.proofs.Common.{arith}
use Rattle.lnbd_callbacks.proofs.LiveLemmas.{owed_by-with_value}
use Rattle.lnbd_callbacks.proofs.SoundLemmas.{IsSound-completion}
use Rattle.lnbd_callbacks.proofs.desk.Desk.note_completed.Goals as goal

pub push_reserved-requires : goal.push_reserved-requires
push_reserved-requires c = let e = owed_by-with_value c.args.number c.self.inside.live.entries (rw (← c.self.view_is) at c.requires) in let fits = c.self.invariant.fits in let owes = c.self.invariant.owes in omega arith

pub overflow_sub-self : goal.overflow_sub-self
overflow_sub-self c = let e = owed_by-with_value c.args.number c.self.inside.live.entries (rw (← c.self.view_is) at c.requires) in let owes = c.self.invariant.owes in omega arith

pub invariant_of-self : goal.invariant_of-self
invariant_of-self c = rw (c.complete_number.ensures, c.push_reserved.ensures.len, c.push_reserved.ensures.capacity) (IsSound-completion _ _ _ _ _ c.args.number c.self.inside.live.entries c.self.invariant (rw (← c.self.view_is) at c.requires))
