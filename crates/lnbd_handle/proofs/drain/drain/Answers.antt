use Rattle.std.proofs.Common.{◌≡◌, [], length, take, refl, ap, subst, arith}
use Rattle.std.proofs.lemmas.List.{length-drop}
use Rattle.lnbd_handle.specs.Runs.{Runs}
use Rattle.lnbd_handle.specs.Announcing.{announced_by_front}
use Rattle.lnbd_handle.specs.Seen.{machine_of, state_of}
use Rattle.lnbd_handle.specs.Turns.{ShowsNothing, arriving}
use Rattle.lnbd_handle.proofs.DrainLemmas.{start_walk, walk_more, drained_all, drained_end, drained_nothing, drained_short}
use Rattle.lnbd_handle.proofs.CalmLemmas.{runs_calm}
use Rattle.lnbd_handle.proofs.drain.drain.Goals as goal

pub loop-used-init : goal.loop-used-init
loop-used-init g c = record { within = omega arith; all = refl; sound = c.requires; so_far = start_walk g.K.Caller.steps g.met.K.Caller.empty g.met.K.Caller.append c.args.connection.now c.args.world.now }

pub returns-in-All-clause-drained : goal.returns-in-All-clause-drained
returns-in-All-clause-drained g c =
    drained_all g.K.Caller.steps g.met.K.Caller.empty g.met.K.Caller.append c.args.connection.now c.loop-used.connection c.turn.new.connection c.args.world.now c.loop-used.world c.turn.new.world c.args.buffer.now c.loop-used.used
    c.loop-used.invariant.within c.loop-used.invariant.so_far
    (subst (λ r. Runs g.K.Caller.steps (arriving r) (machine_of c.loop-used.connection []) (machine_of c.turn.new.connection []) c.loop-used.world c.turn.new.world) c.split_at.ensures.back c.in-All.ensures.means)

pub loop-used-preserved : goal.loop-used-preserved
loop-used-preserved g c =
    let means = c.in-Took.ensures.means in
    let back = ap length c.split_at.ensures.back in
    let one = subst (λ r. Runs g.K.Caller.steps (arriving (take c.in-Took.n r)) (machine_of c.loop-used.connection []) (machine_of c.turn.new.connection []) c.loop-used.world c.turn.new.world) c.split_at.ensures.back means.2 in
    record {
      within = omega (arith, means.1, back, length-drop c.loop-used.used c.args.buffer.now, c.loop-used.invariant.within);
      all = refl;
      sound = c.in-Took.ensures.sound;
      so_far = walk_more g.K.Caller.steps g.met.K.Caller.empty g.met.K.Caller.append c.args.connection.now c.loop-used.connection c.turn.new.connection c.args.world.now c.loop-used.world c.turn.new.world c.args.buffer.now c.loop-used.used
          c.loop-used.invariant.within c.loop-used.invariant.so_far c.in-Took.n one;
    }

pub returns-in-Short-clause-memory : goal.returns-in-Short-clause-memory
returns-in-Short-clause-memory g c calm =
    absurd (c.in-Short.ensures.memory (runs_calm g.K.Caller.steps (take c.loop-used.used c.args.buffer.now) (machine_of c.args.connection.now []) (machine_of c.loop-used.connection []) c.args.world.now c.loop-used.world c.loop-used.invariant.so_far calm) refl)

pub returns-in-Nothing-clause-drained : goal.returns-in-Nothing-clause-drained
returns-in-Nothing-clause-drained g c =
    let means = c.in-Nothing.ensures.means in
    let new = c.turn.new.connection in
    drained_nothing g.K.Caller.steps g.met.K.Caller.empty g.met.K.Caller.append c.args.connection.now c.loop-used.connection new c.args.world.now c.loop-used.world c.turn.new.world c.args.buffer.now c.loop-used.used
    c.loop-used.invariant.within c.loop-used.invariant.so_far c.in-Nothing.announced means.0 means.1 (subst (λ b. ShowsNothing (state_of new) b) c.split_at.ensures.back means.2) (subst (λ b. c.in-Nothing.announced ≡ announced_by_front (state_of new) b) c.split_at.ensures.back means.3)

pub returns-in-Short-clause-drained : goal.returns-in-Short-clause-drained
returns-in-Short-clause-drained g c =
    let means = c.in-Short.ensures.means in
    drained_short g.K.Caller.steps g.met.K.Caller.empty g.met.K.Caller.append c.args.connection.now c.loop-used.connection c.turn.new.connection c.args.world.now c.loop-used.world c.turn.new.world c.args.buffer.now c.loop-used.used
    c.loop-used.invariant.within c.loop-used.invariant.so_far means.0 means.1

-- All is taken.
pub returns-clause-drained : goal.returns-clause-drained
returns-clause-drained g c =
    drained_end g.K.Caller.steps g.met.K.Caller.empty g.met.K.Caller.append c.args.connection.now c.loop-used.connection c.loop-used.connection c.args.world.now c.loop-used.world c.loop-used.world c.args.buffer.now c.loop-used.used
    c.loop-used.invariant.within c.loop-used.invariant.so_far refl refl (omega (arith, c.loop-used-test.false, c.loop-used.invariant.all))
