use Rattle.std.proofs.Common.{◌≡◌, ◌≤◌, true, rules, refl, ap, subst}
use Rattle.std.specs.Prelude.{vec_len}
use Rattle.lnbd_model.specs.Kind.{is_read}
use Rattle.lnbd_model.specs.declared.state.Cause.TheVariants as cause
use Rattle.lnbd_history.specs.Events.{LinkFailed}
use Rattle.lnbd_machine.specs.Machine.{failed_at, kill}
use Rattle.lnbd_handle.specs.Held.{held_in}
use Rattle.lnbd_handle.specs.Runs.{under, Answered}
use Rattle.lnbd_handle.specs.Seen.{machine_of}
use Rattle.lnbd_handle.proofs.RunLemmas.{answered}
use Rattle.lnbd_handle.proofs.EndLemmas.{partial_none, runs_finish}
use Rattle.lnbd_handle.proofs.HistoryLemmas.{adds_answered}
use Rattle.lnbd_handle.proofs.PlacesLemmas.{places_ended}
use Rattle.lnbd_handle.proofs.RoomLemmas.{kill_lasting}
use Rattle.lnbd_handle.proofs.PlacingLemmas.{same_machine}
use Rattle.lnbd_handle.proofs.handle.Handle.link_failed.Goals as goal

pub returns-in-Open-clause-answered : goal.returns-in-Open-clause-answered
returns-in-Open-clause-answered g c =
    let old = machine_of c.self.inside.connection (held_in c.self.inside.pending) in
    let new = machine_of c.die.new.connection (held_in c.clear.new.self) in
    subst (λ m. Answered g.K.Caller.steps LinkFailed m new c.args.world.now c.die.new.world) (same_machine c.self.view_is)
    (answered g.K.Caller.steps LinkFailed (failed_at c.self.inside.connection.stage) old new c.args.world.now c.die.new.world (λ answers. refl)
    (runs_finish g.K.Caller.steps (kill cause.LinkFailed) (failed_at c.self.inside.connection.stage) old new c.args.world.now c.die.new.world
    (λ answers made. ap (λ s. failed_at s (under old answers made)) c.in-Open.is) c.clear.ensures.empty c.die.ensures.acts))

pub returns-in-Disconnecting-clause-answered : goal.returns-in-Disconnecting-clause-answered
returns-in-Disconnecting-clause-answered g c =
    let old = machine_of c.self.inside.connection (held_in c.self.inside.pending) in
    let new = machine_of c.die-in-Disconnecting.new.connection (held_in c.clear-in-Disconnecting.new.self) in
    subst (λ m. Answered g.K.Caller.steps LinkFailed m new c.args.world.now c.die-in-Disconnecting.new.world) (same_machine c.self.view_is)
    (answered g.K.Caller.steps LinkFailed (failed_at c.self.inside.connection.stage) old new c.args.world.now c.die-in-Disconnecting.new.world (λ answers. refl)
    (runs_finish g.K.Caller.steps (kill cause.LinkFailed) (failed_at c.self.inside.connection.stage) old new c.args.world.now c.die-in-Disconnecting.new.world
    (λ answers made. ap (λ s. failed_at s (under old answers made)) c.in-Disconnecting.is) c.clear-in-Disconnecting.ensures.empty c.die-in-Disconnecting.ensures.acts))

pub returns-in-Aborting-clause-answered : goal.returns-in-Aborting-clause-answered
returns-in-Aborting-clause-answered g c =
    let old = machine_of c.self.inside.connection (held_in c.self.inside.pending) in
    let new = machine_of c.die-in-Aborting.new.connection (held_in c.clear-in-Aborting.new.self) in
    subst (λ m. Answered g.K.Caller.steps LinkFailed m new c.args.world.now c.die-in-Aborting.new.world) (same_machine c.self.view_is)
    (answered g.K.Caller.steps LinkFailed (failed_at c.self.inside.connection.stage) old new c.args.world.now c.die-in-Aborting.new.world (λ answers. refl)
    (runs_finish g.K.Caller.steps (kill cause.LinkFailed) (failed_at c.self.inside.connection.stage) old new c.args.world.now c.die-in-Aborting.new.world
    (λ answers made. ap (λ s. failed_at s (under old answers made)) c.in-Aborting.is) c.clear-in-Aborting.ensures.empty c.die-in-Aborting.ensures.acts))

pub returns-in-Open-clause-stands : goal.returns-in-Open-clause-stands
returns-in-Open-clause-stands g c =
    adds_answered g.K.Caller.steps c.args.self.now.machine (machine_of c.die.new.connection (held_in c.clear.new.self)) c.args.world.now c.die.new.world LinkFailed (λ answers history. refl) (λ answers. tt) (returns-in-Open-clause-answered g c)

pub returns-in-Disconnecting-clause-stands : goal.returns-in-Disconnecting-clause-stands
returns-in-Disconnecting-clause-stands g c =
    adds_answered g.K.Caller.steps c.args.self.now.machine (machine_of c.die-in-Disconnecting.new.connection (held_in c.clear-in-Disconnecting.new.self)) c.args.world.now c.die-in-Disconnecting.new.world LinkFailed (λ answers history. refl) (λ answers. tt) (returns-in-Disconnecting-clause-answered g c)

pub returns-in-Aborting-clause-stands : goal.returns-in-Aborting-clause-stands
returns-in-Aborting-clause-stands g c =
    adds_answered g.K.Caller.steps c.args.self.now.machine (machine_of c.die-in-Aborting.new.connection (held_in c.clear-in-Aborting.new.self)) c.args.world.now c.die-in-Aborting.new.world LinkFailed (λ answers history. refl) (λ answers. tt) (returns-in-Aborting-clause-answered g c)

pub returns-in-Created-clause-stands : goal.returns-in-Created-clause-stands
returns-in-Created-clause-stands g c =
    adds_answered g.K.Caller.steps c.args.self.now.machine c.args.self.now.machine c.args.world.now c.args.world.now LinkFailed (λ answers history. refl) (λ answers. tt) (search rules)

pub returns-in-Closed-clause-stands : goal.returns-in-Closed-clause-stands
returns-in-Closed-clause-stands g c =
    adds_answered g.K.Caller.steps c.args.self.now.machine c.args.self.now.machine c.args.world.now c.args.world.now LinkFailed (λ answers history. refl) (λ answers. tt) (search rules)

pub returns-in-Dead-clause-stands : goal.returns-in-Dead-clause-stands
returns-in-Dead-clause-stands g c =
    adds_answered g.K.Caller.steps c.args.self.now.machine c.args.self.now.machine c.args.world.now c.args.world.now LinkFailed (λ answers history. refl) (λ answers. tt) (search rules)

pub invariant_of-self : goal.invariant_of-self
invariant_of-self g c = (
  c.die.ensures.sound,
  partial_none c.die.new.connection (held_in c.clear.new.self) c.clear.ensures.empty,
  places_ended g.K.Caller.steps (kill cause.LinkFailed) c.self.inside.connection c.die.new.connection c.self.inside.pending c.clear.new.self c.args.world.now c.die.new.world (kill_lasting (λ kind length flight. is_read kind ≡ true → length ≤ vec_len c.self.inside.pending.content) cause.LinkFailed) c.die.ensures.acts c.clear.ensures.kept c.clear.ensures.empty c.clear.ensures.unannounced c.clear.ensures.room c.self.invariant.2,
)

pub invariant_of-self-in-Disconnecting : goal.invariant_of-self-in-Disconnecting
invariant_of-self-in-Disconnecting g c = (
  c.die-in-Disconnecting.ensures.sound,
  partial_none c.die-in-Disconnecting.new.connection (held_in c.clear-in-Disconnecting.new.self) c.clear-in-Disconnecting.ensures.empty,
  places_ended g.K.Caller.steps (kill cause.LinkFailed) c.self.inside.connection c.die-in-Disconnecting.new.connection c.self.inside.pending c.clear-in-Disconnecting.new.self c.args.world.now c.die-in-Disconnecting.new.world (kill_lasting (λ kind length flight. is_read kind ≡ true → length ≤ vec_len c.self.inside.pending.content) cause.LinkFailed) c.die-in-Disconnecting.ensures.acts c.clear-in-Disconnecting.ensures.kept c.clear-in-Disconnecting.ensures.empty c.clear-in-Disconnecting.ensures.unannounced c.clear-in-Disconnecting.ensures.room c.self.invariant.2,
)

pub invariant_of-self-in-Aborting : goal.invariant_of-self-in-Aborting
invariant_of-self-in-Aborting g c = (
  c.die-in-Aborting.ensures.sound,
  partial_none c.die-in-Aborting.new.connection (held_in c.clear-in-Aborting.new.self) c.clear-in-Aborting.ensures.empty,
  places_ended g.K.Caller.steps (kill cause.LinkFailed) c.self.inside.connection c.die-in-Aborting.new.connection c.self.inside.pending c.clear-in-Aborting.new.self c.args.world.now c.die-in-Aborting.new.world (kill_lasting (λ kind length flight. is_read kind ≡ true → length ≤ vec_len c.self.inside.pending.content) cause.LinkFailed) c.die-in-Aborting.ensures.acts c.clear-in-Aborting.ensures.kept c.clear-in-Aborting.ensures.empty c.clear-in-Aborting.ensures.unannounced c.clear-in-Aborting.ensures.room c.self.invariant.2,
)
