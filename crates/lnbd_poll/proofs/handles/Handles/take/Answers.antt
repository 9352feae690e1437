use Rattle.std.proofs.Common.{ℕ, arith, ap, ◌+◌}
use Rattle.std.specs.Option.{option_map}
use Rattle.lnbd_machine.specs.Machine.{Machine}
use Rattle.lnbd_poll.specs.Held.{Held}
use Rattle.lnbd_poll.proofs.HeldLemmas.{held_length, held_without, get_here}
use Rattle.lnbd_poll.proofs.handles.Handles.take.Goals as goal

pub returns-clause-value : goal.returns-clause-value
returns-clause-value g c = rw (← c.self.view_is) (ap (option_map {U = ℕ × Machine g.row.K.Denot} (λ (h : Held g.row.K.Denot). (h.link, h.handle))) (get_here c.args.index c.self.inside.all.items _ (let within = rw (← c.self.view_is) at c.requires in omega (arith, within, held_length c.self.inside.all.items)) c.remove-link.ensures.value))

pub returns-clause-others : goal.returns-clause-others
returns-clause-others g c = rw (← c.self.view_is) (held_without c.args.index (c.args.index + 1) c.self.inside.all.items _ c.remove-link.ensures.by_index.2)
