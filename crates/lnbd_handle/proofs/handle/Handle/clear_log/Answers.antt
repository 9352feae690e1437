use Rattle.std.proofs.Common.{sym, ap, subst, ◌∙◌}
use Rattle.lnbd_machine.specs.Machine.{Machine, step}
use Rattle.lnbd_machine.specs.Laws.{IsPartial}
use Rattle.lnbd_history.specs.Events.{ClearLog}
use Rattle.lnbd_commands.specs.Commands.{Commands}
use Rattle.lnbd_handle.specs.Held.{held_in}
use Rattle.lnbd_handle.specs.Seen.{IsSound, machine_of, state_of}
use Rattle.lnbd_handle.specs.Room.{HasPlacesAt}
use Rattle.lnbd_handle.proofs.PlacingLemmas.{same_machine}
use Rattle.lnbd_handle.proofs.handle.Handle.clear_log.Goals as goal

pub invariant_of-self : goal.invariant_of-self
invariant_of-self g c =
    let old = c.self.inside.connection in
    let s = c.self.invariant.0 in
    subst (λ (m : Commands g.row.K.Denot). IsSound (record old { commands = m }) × IsPartial (machine_of (record old { commands = m }) (held_in c.self.inside.pending)) × HasPlacesAt (state_of (record old { commands = m })) c.self.inside.pending) (sym c.clear_log.ensures)
    (record { fits = s.fits; ahead = s.ahead; stands = s.stands; counted = s.counted }, c.self.invariant.1, c.self.invariant.2)

pub returns-clause-step : goal.returns-clause-step
returns-clause-step g c =
    ap (λ (m : Commands g.row.K.Denot). machine_of (record c.self.inside.connection { commands = m }) (held_in c.self.inside.pending)) c.clear_log.ensures
    ∙ ap (λ (m : Machine g.row.K.Denot). step m ClearLog) (same_machine c.self.view_is)
