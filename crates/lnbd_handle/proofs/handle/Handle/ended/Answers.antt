use Rattle.std.proofs.Common.{◌≡◌, ◌≤◌, true, rules, refl, ap, subst}
use Rattle.std.specs.Prelude.{vec_len}
use Rattle.lnbd_model.specs.Kind.{is_read}
use Rattle.lnbd_model.specs.declared.state.Cause.TheVariants as cause
use Rattle.lnbd_history.specs.Events.{End}
use Rattle.lnbd_machine.specs.Machine.{ended_at, ended_closing, flying, kill}
use Rattle.lnbd_handle.specs.Held.{held_in}
use Rattle.lnbd_handle.specs.Runs.{under, Answered}
use Rattle.lnbd_handle.specs.Seen.{machine_of}
use Rattle.lnbd_handle.proofs.RunLemmas.{answered}
use Rattle.lnbd_handle.proofs.EndLemmas.{partial_none, runs_finish}
use Rattle.lnbd_handle.proofs.HistoryLemmas.{adds_answered}
use Rattle.lnbd_handle.proofs.PlacesLemmas.{places_ended}
use Rattle.lnbd_handle.proofs.RoomLemmas.{closing_lasting, kill_lasting}
use Rattle.lnbd_handle.proofs.PlacingLemmas.{same_machine}
use Rattle.lnbd_handle.proofs.handle.Handle.ended.Goals as goal

pub invariant_of-self-in-Disconnecting : goal.invariant_of-self-in-Disconnecting
invariant_of-self-in-Disconnecting g c = (
  c.end_closing.ensures.sound,
  partial_none c.end_closing.new.connection (held_in c.clear-in-Disconnecting.new.self) c.clear-in-Disconnecting.ensures.empty,
  places_ended g.K.Caller.steps (ended_closing (flying c.self.inside.connection.commands.rows)) c.self.inside.connection c.end_closing.new.connection c.self.inside.pending c.clear-in-Disconnecting.new.self c.args.world.now c.end_closing.new.world (closing_lasting (λ kind length flight. is_read kind ≡ true → length ≤ vec_len c.self.inside.pending.content) (flying c.self.inside.connection.commands.rows)) c.end_closing.ensures.acts c.clear-in-Disconnecting.ensures.kept c.clear-in-Disconnecting.ensures.empty c.clear-in-Disconnecting.ensures.unannounced c.clear-in-Disconnecting.ensures.room c.self.invariant.2,
)

pub invariant_of-self-in-Aborting : goal.invariant_of-self-in-Aborting
invariant_of-self-in-Aborting g c = (
  c.end_closing-in-Aborting.ensures.sound,
  partial_none c.end_closing-in-Aborting.new.connection (held_in c.clear-in-Aborting.new.self) c.clear-in-Aborting.ensures.empty,
  places_ended g.K.Caller.steps (ended_closing (flying c.self.inside.connection.commands.rows)) c.self.inside.connection c.end_closing-in-Aborting.new.connection c.self.inside.pending c.clear-in-Aborting.new.self c.args.world.now c.end_closing-in-Aborting.new.world (closing_lasting (λ kind length flight. is_read kind ≡ true → length ≤ vec_len c.self.inside.pending.content) (flying c.self.inside.connection.commands.rows)) c.end_closing-in-Aborting.ensures.acts c.clear-in-Aborting.ensures.kept c.clear-in-Aborting.ensures.empty c.clear-in-Aborting.ensures.unannounced c.clear-in-Aborting.ensures.room c.self.invariant.2,
)

pub returns-in-Open-clause-answered : goal.returns-in-Open-clause-answered
returns-in-Open-clause-answered g c =
    let old = machine_of c.self.inside.connection (held_in c.self.inside.pending) in
    let new = machine_of c.die.new.connection (held_in c.clear.new.self) in
    subst (λ m. Answered g.K.Caller.steps End m new c.args.world.now c.die.new.world) (same_machine c.self.view_is)
    (answered g.K.Caller.steps End (ended_at c.self.inside.connection.stage) old new c.args.world.now c.die.new.world (λ answers. refl)
    (runs_finish g.K.Caller.steps (kill cause.Ended) (ended_at c.self.inside.connection.stage) old new c.args.world.now c.die.new.world
    (λ answers made. ap (λ s. ended_at s (under old answers made)) c.in-Open.is) c.clear.ensures.empty c.die.ensures.acts))

pub returns-in-Disconnecting-clause-answered : goal.returns-in-Disconnecting-clause-answered
returns-in-Disconnecting-clause-answered g c =
    let old = machine_of c.self.inside.connection (held_in c.self.inside.pending) in
    let new = machine_of c.end_closing.new.connection (held_in c.clear-in-Disconnecting.new.self) in
    subst (λ m. Answered g.K.Caller.steps End m new c.args.world.now c.end_closing.new.world) (same_machine c.self.view_is)
    (answered g.K.Caller.steps End (ended_at c.self.inside.connection.stage) old new c.args.world.now c.end_closing.new.world (λ answers. refl)
    (runs_finish g.K.Caller.steps (ended_closing (flying c.self.inside.connection.commands.rows)) (ended_at c.self.inside.connection.stage) old new c.args.world.now c.end_closing.new.world
    (λ answers made. ap (λ s. ended_at s (under old answers made)) c.in-Disconnecting.is) c.clear-in-Disconnecting.ensures.empty c.end_closing.ensures.acts))

pub returns-in-Aborting-clause-answered : goal.returns-in-Aborting-clause-answered
returns-in-Aborting-clause-answered g c =
    let old = machine_of c.self.inside.connection (held_in c.self.inside.pending) in
    let new = machine_of c.end_closing-in-Aborting.new.connection (held_in c.clear-in-Aborting.new.self) in
    subst (λ m. Answered g.K.Caller.steps End m new c.args.world.now c.end_closing-in-Aborting.new.world) (same_machine c.self.view_is)
    (answered g.K.Caller.steps End (ended_at c.self.inside.connection.stage) old new c.args.world.now c.end_closing-in-Aborting.new.world (λ answers. refl)
    (runs_finish g.K.Caller.steps (ended_closing (flying c.self.inside.connection.commands.rows)) (ended_at c.self.inside.connection.stage) old new c.args.world.now c.end_closing-in-Aborting.new.world
    (λ answers made. ap (λ s. ended_at s (under old answers made)) c.in-Aborting.is) c.clear-in-Aborting.ensures.empty c.end_closing-in-Aborting.ensures.acts))

pub returns-in-Open-clause-stands : goal.returns-in-Open-clause-stands
returns-in-Open-clause-stands g c =
    adds_answered g.K.Caller.steps c.args.self.now.machine (machine_of c.die.new.connection (held_in c.clear.new.self)) c.args.world.now c.die.new.world End (λ answers history. refl) (λ answers. tt) (returns-in-Open-clause-answered g c)

pub returns-in-Disconnecting-clause-stands : goal.returns-in-Disconnecting-clause-stands
returns-in-Disconnecting-clause-stands g c =
    adds_answered g.K.Caller.steps c.args.self.now.machine (machine_of c.end_closing.new.connection (held_in c.clear-in-Disconnecting.new.self)) c.args.world.now c.end_closing.new.world End (λ answers history. refl) (λ answers. tt) (returns-in-Disconnecting-clause-answered g c)

pub returns-in-Aborting-clause-stands : goal.returns-in-Aborting-clause-stands
returns-in-Aborting-clause-stands g c =
    adds_answered g.K.Caller.steps c.args.self.now.machine (machine_of c.end_closing-in-Aborting.new.connection (held_in c.clear-in-Aborting.new.self)) c.args.world.now c.end_closing-in-Aborting.new.world End (λ answers history. refl) (λ answers. tt) (returns-in-Aborting-clause-answered g c)

pub returns-in-Created-clause-stands : goal.returns-in-Created-clause-stands
returns-in-Created-clause-stands g c =
    adds_answered g.K.Caller.steps c.args.self.now.machine c.args.self.now.machine c.args.world.now c.args.world.now End (λ answers history. refl) (λ answers. tt) (search rules)

pub returns-in-Closed-clause-stands : goal.returns-in-Closed-clause-stands
returns-in-Closed-clause-stands g c =
    adds_answered g.K.Caller.steps c.args.self.now.machine c.args.self.now.machine c.args.world.now c.args.world.now End (λ answers history. refl) (λ answers. tt) (search rules)

pub returns-in-Dead-clause-stands : goal.returns-in-Dead-clause-stands
returns-in-Dead-clause-stands g c =
    adds_answered g.K.Caller.steps c.args.self.now.machine c.args.self.now.machine c.args.world.now c.args.world.now End (λ answers history. refl) (λ answers. tt) (search rules)

pub invariant_of-self : goal.invariant_of-self
invariant_of-self g c = (
  c.die.ensures.sound,
  partial_none c.die.new.connection (held_in c.clear.new.self) c.clear.ensures.empty,
  places_ended g.K.Caller.steps (kill cause.Ended) c.self.inside.connection c.die.new.connection c.self.inside.pending c.clear.new.self c.args.world.now c.die.new.world (kill_lasting (λ kind length flight. is_read kind ≡ true → length ≤ vec_len c.self.inside.pending.content) cause.Ended) c.die.ensures.acts c.clear.ensures.kept c.clear.ensures.empty c.clear.ensures.unannounced c.clear.ensures.room c.self.invariant.2,
)
