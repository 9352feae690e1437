use Rattle.std.proofs.Common.{◌<◌, ◌≤◌, ℕ, Bool, true, false, Err, [], if◌then◌else◌, length, take, sym, ap, subst, ◌∙◌, arith}
use Rattle.std.proofs.lemmas.Bool.{le-ltb}
use Rattle.lnbd_stream.proofs.Grammar.{wants_false}
use Rattle.lnbd_model.specs.declared.breach.Breach.TheVariants.{SizeTooBig}
use Rattle.lnbd_negotiate.specs.Means.{ToldByName}
use Rattle.lnbd_handle.specs.Runs.{Runs}
use Rattle.lnbd_handle.specs.Seen.{state_of, machine_of}
use Rattle.lnbd_handle.specs.Turns.{arriving}
use Rattle.lnbd_handle.proofs.TurnLemmas.{shown_by_name, turn_broken, turn_told}
use Rattle.lnbd_handle.proofs.GreetLemmas.{talk_sound, told_cause}
use Rattle.lnbd_handle.proofs.turns.turn_by_name.Goals as goal

some_bytes : (n : Bool) → 0 < (if n then 10 else 134)
some_bytes true = omega arith
some_bytes false = omega arith

pub returns-in-Ok-clause-means : goal.returns-in-Ok-clause-means
returns-in-Ok-clause-means g c =
    let old = c.args.connection.now in
    let n = c.has_no_zeroes-no_zeroes.result in
    let new = record old { talk = c.export_told.new.self } in
    let runs = turn_told g.K.Caller.steps g.met.K.Caller.empty old c.export_told.new.self c.args.world.now c.args.rest.now n c.in-Some.size c.in-Some.flags c.requires.open c.requires.by_name c.has_no_zeroes-no_zeroes.ensures
    c.in-Ok.ensures.0 c.in-Ok.ensures.1 c.in-Some.ensures.0 c.in-Some.ensures.1 in
    let P : ℕ → Type 0 = λ k. (0 < k) × (k ≤ length c.args.rest.now) × Runs g.K.Caller.steps (arriving (take k c.args.rest.now)) (machine_of old []) (machine_of new []) c.args.world.now c.args.world.now in
    subst P (sym c.by_name_size.ensures) (some_bytes n, c.in-Some.ensures.0, runs)

pub returns-in-Ok-clause-sound : goal.returns-in-Ok-clause-sound
returns-in-Ok-clause-sound g c = talk_sound c.args.connection.now c.export_told.new.self c.requires.open c.requires.sound

pub returns-in-Err-Cause-clause-means : goal.returns-in-Err-Cause-clause-means
returns-in-Err-Cause-clause-means g c =
    let old = c.args.connection.now in
    let cause = told_cause old.talk c.in-Some.size c.in-Some.flags c.in-Err-Cause.cause c.export_told.new.self
    (subst (λ f. ToldByName old.talk c.in-Some.size c.in-Some.flags (Err f) c.export_told.new.self) c.in-Err-Cause.field-0-is c.in-Err-Cause.ensures) in
    turn_broken g.K.Caller.steps old (record old { talk = c.export_told.new.self }) c.die.new.connection c.args.world.now c.die.new.world c.args.rest.now SizeTooBig c.in-Err-Cause.cause cause.0
    (λ answers made. shown_by_name old c.args.rest.now c.has_no_zeroes-no_zeroes.result c.requires.open c.requires.by_name c.has_no_zeroes-no_zeroes.ensures answers made ∙ c.in-Some.ensures.1 ∙ wants_false _ _ _ (le-ltb _ _ cause.1))
    (ap (λ t. state_of (record old { talk = t })) cause.2) c.die.ensures.acts c.die.ensures.dead
