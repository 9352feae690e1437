use Rattle.std.proofs.Common.{rules, refl, subst}
use Rattle.lnbd_history.specs.declared.kinds.Stage.TheVariants.{Open}
use Rattle.lnbd_history.specs.Events.{Start}
use Rattle.lnbd_machine.proofs.Partial.{step_partial}
use Rattle.lnbd_handle.specs.Held.{held_in}
use Rattle.lnbd_handle.specs.Seen.{Stands, machine_of}
use Rattle.lnbd_handle.proofs.HistoryLemmas.{adds}
use Rattle.lnbd_handle.proofs.PlacesLemmas.{places_started}
use Rattle.lnbd_handle.proofs.handle.Handle.start.Goals as goal

pub invariant_of-self : goal.invariant_of-self
invariant_of-self g c =
    let old = c.self.inside.connection in
    let s = c.self.invariant.0 in (
      record { fits = s.fits; ahead = s.ahead; stands = subst (λ t. Stands t old.talk.phase old.queue.ended) c.in-Created.is s.stands; counted = s.counted },
      step_partial Start (machine_of old (held_in c.self.inside.pending)) c.in-Created.is c.self.invariant.1,
      places_started old c.self.inside.pending c.in-Created.is c.self.invariant.1 c.self.invariant.2,
    )

pub returns-in-Created-clause-stands : goal.returns-in-Created-clause-stands
returns-in-Created-clause-stands g c =
    let new = machine_of (record c.self.inside.connection { stage = Open }) (held_in c.self.inside.pending) in
    adds Start c.args.self.now.machine new (λ history. refl) (search rules) (search rules)
