use Rattle.std.proofs.Common.{ap, subst, [], ◌∷◌}
use Rattle.lnbd_history.specs.Arrivals.{shows_at}
use Rattle.lnbd_machine.specs.Machine.{sight, waited}
use Rattle.lnbd_handle.specs.Seen.{state_of, Stands}
use Rattle.lnbd_handle.proofs.TurnLemmas.{turn_ignored}
use Rattle.lnbd_handle.proofs.turns.turn.Goals as goal

pub turn_frame-requires-clause-ready : goal.turn_frame-requires-clause-ready
turn_frame-requires-clause-ready g c = subst (λ s. Stands s c.args.connection.now.talk.phase c.args.connection.now.queue.ended) c.in-Disconnecting.is c.requires.stands

pub returns-in-Created-clause-means : goal.returns-in-Created-clause-means
returns-in-Created-clause-means g c =
    let old = c.args.connection.now in
    turn_ignored g.K.Caller.steps g.met.K.Caller.empty old c.args.world.now c.args.rest.now (λ byte answers made. ap (λ s. shows_at s (sight (state_of old)) (waited (state_of old)) (byte ∷ [])) c.in-Created.is)

pub returns-in-Closed-clause-means : goal.returns-in-Closed-clause-means
returns-in-Closed-clause-means g c =
    let old = c.args.connection.now in
    turn_ignored g.K.Caller.steps g.met.K.Caller.empty old c.args.world.now c.args.rest.now (λ byte answers made. ap (λ s. shows_at s (sight (state_of old)) (waited (state_of old)) (byte ∷ [])) c.in-Closed.is)

pub returns-in-Dead-clause-means : goal.returns-in-Dead-clause-means
returns-in-Dead-clause-means g c =
    let old = c.args.connection.now in
    turn_ignored g.K.Caller.steps g.met.K.Caller.empty old c.args.world.now c.args.rest.now (λ byte answers made. ap (λ s. shows_at s (sight (state_of old)) (waited (state_of old)) (byte ∷ [])) c.in-Dead.is)
