use Rattle.std.proofs.Common.{◌≡◌, [], Some, None, length, take, drop, refl, sym, ap, subst, ◌∙◌, arith, nat_le}
use Rattle.std.proofs.lemmas.List.{length-drop, length-take-le}
use Rattle.lnbd_keyed.specs.Keyed.{value_at}
use Rattle.lnbd_model.specs.declared.state.Cause.TheVariants.{Broke}
use Rattle.lnbd_machine.specs.Machine.{waited}
use Rattle.lnbd_commands.specs.Takes as takes
use Rattle.lnbd_handle.specs.Seen.{state_of}
use Rattle.lnbd_handle.proofs.AnnouncedLemmas.{told_front}
use Rattle.lnbd_handle.proofs.TurnLemmas.{shown_frame, turn_broken, turn_reply, waited_row}
use Rattle.lnbd_handle.proofs.QueuedLemmas.{kept_sound}
use Rattle.std.proofs.lemmas.Bool.{true≢false}
use Rattle.lnbd_arrivals.specs.Frames.{is_structured}
use Rattle.lnbd_handle.proofs.CalmLemmas.{first_none}
use Rattle.lnbd_handle.proofs.turns.turn_reply.Goals as goal

pub split_at-requires : goal.split_at-requires
split_at-requires g c =
    let is = c.in-Whole.ensures (waited (state_of c.args.connection.now)) c.requires.waits in
    omega (arith, is.there)

pub split_at-requires-in-Whole : goal.split_at-requires-in-Whole
split_at-requires-in-Whole g c =
    let is = c.in-Whole.ensures (waited (state_of c.args.connection.now)) c.requires.waits in
    let back = ap length c.split_at.ensures.back in
    omega (arith, is.there, back, length-drop 16 c.args.rest.now)

pub reply-requires : goal.reply-requires
reply-requires g c =
    let is = c.in-Whole.ensures (waited (state_of c.args.connection.now)) c.requires.waits in
    let row = waited_row (nat_le c.in-Whole.cookie c.args.connection.now.written) (value_at c.in-Whole.cookie c.args.connection.now.commands.rows) is.command is.waits in
    let there : c.split_at-in-Whole.result.0.now ≡ take c.in-Whole.size (drop 16 c.args.rest.now) = c.split_at-in-Whole.ensures.front ∙ ap (take c.in-Whole.size) c.split_at.ensures.back in
    subst (λ w. takes.IsReply w c.in-Whole.error c.split_at-in-Whole.result.0.now) (sym row)
    (ap length there ∙ length-take-le c.in-Whole.size (drop 16 c.args.rest.now) (omega (arith, is.there, length-drop 16 c.args.rest.now)) ∙ is.sized)

-- nothing is shown yet
pub returns-in-Nothing-clause-means : goal.returns-in-Nothing-clause-means
returns-in-Nothing-clause-means g c =
    let old = c.args.connection.now in
    let seen = c.in-Nothing.ensures (waited (state_of old)) c.requires.waits in
    let replies = c.replies_of-replies in (
      refl,
      refl,
      shown_frame old replies.result c.args.rest.now c.requires.speaking c.requires.ready replies.ensures.agreed [] [] ∙ seen.0,
      told_front (state_of old) replies.result c.args.rest.now None c.requires.speaking c.requires.ready replies.ensures.is seen.1,
    )

pub returns-in-Begun-clause-means : goal.returns-in-Begun-clause-means
returns-in-Begun-clause-means g c =
    let old = c.args.connection.now in
    let seen = c.in-Begun.ensures (waited (state_of old)) c.requires.waits in
    let replies = c.replies_of-replies in (
      refl,
      refl,
      shown_frame old replies.result c.args.rest.now c.requires.speaking c.requires.ready replies.ensures.agreed [] [] ∙ seen.nothing,
      told_front (state_of old) replies.result c.args.rest.now (Some c.in-Begun.announced) c.requires.speaking c.requires.ready replies.ensures.is seen.says,
    )

pub returns-in-Broken-clause-means : goal.returns-in-Broken-clause-means
returns-in-Broken-clause-means g c =
    turn_broken g.K.Caller.steps c.args.connection.now c.args.connection.now c.die.new.connection c.args.world.now c.die.new.world c.args.rest.now c.in-Broken.breach (Broke c.in-Broken.breach) refl
    (λ answers made. shown_frame c.args.connection.now c.replies_of-replies.result c.args.rest.now c.requires.speaking c.requires.ready c.replies_of-replies.ensures.agreed answers made ∙ c.in-Broken.ensures (waited (state_of c.args.connection.now)) c.requires.waits) refl
    c.die.ensures.acts c.die.ensures.dead

pub returns-in-Ok-clause-means : goal.returns-in-Ok-clause-means
returns-in-Ok-clause-means g c =
    let is = c.in-Whole.ensures (waited (state_of c.args.connection.now)) c.requires.waits in
    let there : c.split_at-in-Whole.result.0.now ≡ take c.in-Whole.size (drop 16 c.args.rest.now) = c.split_at-in-Whole.ensures.front ∙ ap (take c.in-Whole.size) c.split_at.ensures.back in (
      omega arith,
      is.there,
      (turn_reply g.K.Caller.steps c.args.connection.now c.replies_of-replies.result c.reply.new.self c.args.world.now c.reply.new.world c.args.rest.now c.in-Whole.cookie c.in-Whole.error c.in-Whole.size c.split_at-in-Whole.result.0.now
          c.requires.speaking c.requires.ready c.replies_of-replies.ensures.agreed c.requires.sound is there c.in-Ok.ensures.ok).0,
    )

pub returns-in-Ok-clause-sound : goal.returns-in-Ok-clause-sound
returns-in-Ok-clause-sound g c =
    let is = c.in-Whole.ensures (waited (state_of c.args.connection.now)) c.requires.waits in
    let there : c.split_at-in-Whole.result.0.now ≡ take c.in-Whole.size (drop 16 c.args.rest.now) = c.split_at-in-Whole.ensures.front ∙ ap (take c.in-Whole.size) c.split_at.ensures.back in
    let turned = turn_reply g.K.Caller.steps c.args.connection.now c.replies_of-replies.result c.reply.new.self c.args.world.now c.reply.new.world c.args.rest.now c.in-Whole.cookie c.in-Whole.error c.in-Whole.size c.split_at-in-Whole.result.0.now
    c.requires.speaking c.requires.ready c.replies_of-replies.ensures.agreed c.requires.sound is there c.in-Ok.ensures.ok in
    kept_sound c.args.connection.now c.reply.new.self turned.2 turned.1 c.requires.sound

pub returns-in-Err-clause-memory : goal.returns-in-Err-clause-memory
returns-in-Err-clause-memory g c quiet =
    absurd (first_none (value_at c.in-Whole.cookie c.args.connection.now.commands.rows) c.args.connection.now.commands.rows c.in-Whole.cookie refl quiet.1 c.in-Err.ensures.read c.in-Err.ensures.needed)

pub returns-in-Chunk-clause-memory : goal.returns-in-Chunk-clause-memory
returns-in-Chunk-clause-memory g c quiet =
    let is = c.in-Chunk.ensures (waited (state_of c.args.connection.now)) c.requires.waits in
    absurd (true≢false (sym is.agreed ∙ ap is_structured (c.replies_of-replies.ensures.simple quiet.0.compact quiet.0.short)))
