use Rattle.std.proofs.Common.{Err, refl, subst, ◌∙◌, arith}
use Rattle.lnbd_handle.specs.Greets.{Greets}
use Rattle.lnbd_stream.proofs.Grammar.{wants_false}
use Rattle.lnbd_model.specs.declared.breach.Breach.TheVariants.{NotFixed}
use Rattle.lnbd_model.specs.declared.state.Cause.TheVariants.{Broke}
use Rattle.lnbd_handle.specs.Seen.{state_of}
use Rattle.lnbd_handle.proofs.TurnLemmas.{shown_hello, greets_cause, turn_broken, turn_greeted}
use Rattle.lnbd_handle.proofs.turns.turn_hello.Goals as goal

pub returns-in-Broken-clause-means : goal.returns-in-Broken-clause-means
returns-in-Broken-clause-means g c =
    turn_broken g.K.Caller.steps c.args.connection.now c.args.connection.now c.die.new.connection c.args.world.now c.die.new.world c.args.rest.now c.in-Broken.breach (Broke c.in-Broken.breach) refl
    (λ answers made. shown_hello c.args.connection.now c.args.rest.now c.requires.open c.requires.greeting answers made ∙ c.in-Broken.ensures) refl c.die.ensures.acts c.die.ensures.dead

pub returns-in-Ok-clause-means : goal.returns-in-Ok-clause-means
returns-in-Ok-clause-means g c = (
  omega arith,
  c.in-Whole.ensures.0,
  turn_greeted g.K.Caller.steps g.met.K.Caller.empty c.args.connection.now c.greet.new.connection c.args.world.now c.args.rest.now c.in-Whole.flags c.requires.open c.requires.greeting c.in-Whole.ensures.0 c.in-Whole.ensures.1
      c.in-Ok.ensures.greets.0 c.in-Ok.ensures.greets.1,
)

pub returns-in-Err-Cause-clause-means : goal.returns-in-Err-Cause-clause-means
returns-in-Err-Cause-clause-means g c =
    let cause = greets_cause (state_of c.args.connection.now) c.in-Whole.flags c.in-Err-Cause.cause (state_of c.greet.new.connection) (subst (λ f. Greets (state_of c.args.connection.now) c.in-Whole.flags (Err f) (state_of c.greet.new.connection)) c.in-Err-Cause.field-0-is c.in-Err-Cause.ensures.greets) in
    turn_broken g.K.Caller.steps c.args.connection.now c.greet.new.connection c.die-in-Err-Cause.new.connection c.args.world.now c.die-in-Err-Cause.new.world c.args.rest.now NotFixed c.in-Err-Cause.cause cause.0
    (λ answers made. shown_hello c.args.connection.now c.args.rest.now c.requires.open c.requires.greeting answers made ∙ c.in-Whole.ensures.1 ∙ wants_false _ _ _ cause.1) cause.2 c.die-in-Err-Cause.ensures.acts c.die-in-Err-Cause.ensures.dead
