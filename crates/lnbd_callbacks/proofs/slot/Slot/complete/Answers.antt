use Rattle.std.proofs.Common.{true, false, Some, ap, ◌∙◌}
use Rattle.lnbd_keyed.proofs.KeyedLemmas.{value_at_with}
use Rattle.lnbd_callbacks.proofs.slot.Slot.complete.Goals as goal

pub returns-clause-live : goal.returns-clause-live
returns-clause-live g c = rw (c.note_completed.ensures) (value_at_with c.self.inside.number false true c.args.desk.now.log.live (rw (← c.self.view_is) at c.requires.live ∙ ap (λ b. Some b) (rw (← c.self.view_is) at c.requires.fresh)))
