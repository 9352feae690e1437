use Rattle.std.proofs.Common.{Err, ◌≡◌, length, take, drop, refl, sym, ap, subst, ◌∙◌, arith}
use Rattle.std.proofs.lemmas.List.{length-drop}
use Rattle.lnbd_model.specs.declared.state.Cause.TheVariants.{Broke}
use Rattle.lnbd_history.specs.Arrivals.{reply_verdict}
use Rattle.lnbd_machine.specs.Machine.{sight}
use Rattle.lnbd_handle.specs.Greets.{Replies}
use Rattle.lnbd_handle.specs.Seen.{state_of}
use Rattle.lnbd_handle.proofs.TurnLemmas.{shown_option, turn_broken, turn_replied, turn_refused}
use Rattle.lnbd_handle.proofs.turns.turn_option.Goals as goal

pub take_reply-requires-clause-seen : goal.take_reply-requires-clause-seen
take_reply-requires-clause-seen g c = (c.in-Whole.ensures (sight (state_of c.args.connection.now)) (sym c.phase.ensures)).3

pub split_at-requires : goal.split_at-requires
split_at-requires g c =
    let whole = c.in-Whole.ensures (sight (state_of c.args.connection.now)) (sym c.phase.ensures) in
    omega (arith, whole.1)

pub split_at-requires-in-Whole : goal.split_at-requires-in-Whole
split_at-requires-in-Whole g c =
    let whole = c.in-Whole.ensures (sight (state_of c.args.connection.now)) (sym c.phase.ensures) in
    let back = ap length c.split_at.ensures.back in
    omega (arith, whole.1, back, length-drop 20 c.args.rest.now)

pub returns-in-Broken-clause-means : goal.returns-in-Broken-clause-means
returns-in-Broken-clause-means g c =
    turn_broken g.K.Caller.steps c.args.connection.now c.args.connection.now c.die.new.connection c.args.world.now c.die.new.world c.args.rest.now c.in-Broken.breach (Broke c.in-Broken.breach) refl
    (λ answers made. shown_option c.args.connection.now c.args.rest.now c.requires.open c.requires.options answers made ∙ c.in-Broken.ensures (sight (state_of c.args.connection.now)) (sym c.phase.ensures)) refl c.die.ensures.acts c.die.ensures.dead

pub returns-in-Ok-clause-means : goal.returns-in-Ok-clause-means
returns-in-Ok-clause-means g c =
    let whole = c.in-Whole.ensures (sight (state_of c.args.connection.now)) (sym c.phase.ensures) in
    let body : c.split_at-in-Whole.result.0.now ≡ take c.in-Whole.head.length (drop 20 c.args.rest.now) = c.split_at-in-Whole.ensures.front ∙ ap (take c.in-Whole.head.length) c.split_at.ensures.back in
    let verdict = whole.2 ∙ ap (reply_verdict (sight (state_of c.args.connection.now)) c.in-Whole.head.option c.in-Whole.head.kind c.in-Whole.head.length) (sym body) in
    let told = c.in-Ok.ensures.replies in (
      omega arith,
      whole.1,
      turn_replied g.K.Caller.steps g.met.K.Caller.empty c.args.connection.now c.take_reply.new.connection c.args.world.now c.args.rest.now c.in-Whole.head.length told.0 c.requires.open c.requires.options whole.0 whole.1
          (verdict ∙ told.1) told.2 told.3,
    )

pub returns-in-Err-Cause-clause-means : goal.returns-in-Err-Cause-clause-means
returns-in-Err-Cause-clause-means g c =
    let whole = c.in-Whole.ensures (sight (state_of c.args.connection.now)) (sym c.phase.ensures) in
    let body : c.split_at-in-Whole.result.0.now ≡ take c.in-Whole.head.length (drop 20 c.args.rest.now) = c.split_at-in-Whole.ensures.front ∙ ap (take c.in-Whole.head.length) c.split_at.ensures.back in
    let verdict = whole.2 ∙ ap (reply_verdict (sight (state_of c.args.connection.now)) c.in-Whole.head.option c.in-Whole.head.kind c.in-Whole.head.length) (sym body) in
    turn_refused g.K.Caller.steps c.args.connection.now c.take_reply.new.connection c.die-in-Err-Cause.new.connection c.args.world.now c.die-in-Err-Cause.new.world c.args.rest.now c.in-Whole.head.length (reply_verdict (sight (state_of c.args.connection.now)) c.in-Whole.head.option c.in-Whole.head.kind c.in-Whole.head.length c.split_at-in-Whole.result.0.now) c.in-Err-Cause.cause c.requires.open c.requires.options
    whole.0 whole.1 verdict (subst (λ f. Replies (state_of c.args.connection.now) (reply_verdict (sight (state_of c.args.connection.now)) c.in-Whole.head.option c.in-Whole.head.kind c.in-Whole.head.length c.split_at-in-Whole.result.0.now) (Err f) (state_of c.take_reply.new.connection)) c.in-Err-Cause.field-0-is c.in-Err-Cause.ensures.replies) c.die-in-Err-Cause.ensures.acts c.die-in-Err-Cause.ensures.dead
