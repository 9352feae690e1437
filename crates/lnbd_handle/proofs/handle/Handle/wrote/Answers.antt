use Rattle.std.proofs.Common.{rules, refl, sym, subst}
use Rattle.lnbd_history.specs.Events.{Wrote}
use Rattle.lnbd_machine.specs.Laws.{IsPartial}
use Rattle.lnbd_machine.proofs.Partial.{step_partial}
use Rattle.lnbd_handle.specs.Held.{held_in}
use Rattle.lnbd_handle.specs.Seen.{machine_of, state_of}
use Rattle.lnbd_handle.proofs.HistoryLemmas.{adds}
use Rattle.lnbd_handle.proofs.PlacesLemmas.{places_wrote}
use Rattle.lnbd_handle.proofs.handle.Handle.wrote.Goals as goal

pub invariant_of-self : goal.invariant_of-self
invariant_of-self g c = (
  c.count_written.ensures.sound,
  subst (λ s. IsPartial (record { known = s; pending = held_in c.self.inside.pending })) (sym c.count_written.ensures.state)
      (step_partial (Wrote c.args.n) (machine_of c.self.inside.connection (held_in c.self.inside.pending)) tt c.self.invariant.1),
  places_wrote c.args.n (state_of c.self.inside.connection) (state_of c.count_written.new.connection) c.self.inside.pending c.count_written.ensures.state c.self.invariant.1 c.self.invariant.2,
)

pub returns-clause-stands : goal.returns-clause-stands
returns-clause-stands g c =
    adds (Wrote c.args.n) c.args.self.now.machine (machine_of c.count_written.new.connection (held_in c.self.inside.pending)) (λ history. refl) (search rules) (search rules)
