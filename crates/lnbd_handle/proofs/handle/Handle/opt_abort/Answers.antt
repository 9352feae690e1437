use Rattle.std.proofs.Common.{rules, refl, [], ◌∷◌}
use Rattle.lnbd_history.specs.declared.kinds.Stage.TheVariants.{Aborting}
use Rattle.lnbd_history.specs.Outgoing.{abort_part}
use Rattle.lnbd_machine.specs.Machine.{asking}
use Rattle.lnbd_history.specs.Events.{Abort}
use Rattle.lnbd_handle.specs.Held.{held_in}
use Rattle.lnbd_handle.specs.Seen.{machine_of, state_of}
use Rattle.lnbd_handle.proofs.EndLemmas.{partial_none}
use Rattle.lnbd_handle.proofs.HistoryLemmas.{adds}
use Rattle.lnbd_handle.proofs.PlacesLemmas.{places_cleared}
use Rattle.lnbd_handle.proofs.handle.Handle.opt_abort.Goals as goal

pub invariant_of-self : goal.invariant_of-self
invariant_of-self g c = (
  c.abort.ensures.sound,
  partial_none c.abort.new.connection (held_in c.clear.new.self) c.clear.ensures.empty,
  places_cleared (asking (abort_part ∷ []) (record (state_of c.self.inside.connection) { stage = Aborting })) (state_of c.abort.new.connection) c.self.inside.pending c.clear.new.self c.abort.ensures.state c.clear.ensures.kept c.clear.ensures.empty c.clear.ensures.unannounced c.clear.ensures.room c.self.invariant.2.fits c.self.invariant.2.ordered,
)

pub returns-in-OptMode-clause-stands : goal.returns-in-OptMode-clause-stands
returns-in-OptMode-clause-stands g c =
    adds Abort c.args.self.now.machine (machine_of c.abort.new.connection (held_in c.clear.new.self)) (λ history. refl) (search rules) (search rules)
