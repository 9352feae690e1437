use Rattle.std.proofs.Common.{◌≡◌, ◌-◌, ◌<◌, ◌≤◌, length, refl, arith}
use Rattle.lnbd_records.specs.Limits.{max_passed}
use Rattle.lnbd_handle.proofs.AbortLemmas.{turn_all_passed, turn_over}
use Rattle.lnbd_handle.proofs.aborting.turn_aborting.Goals as goal

pub returns-then-count-left-clause-means : goal.returns-then-count-left-clause-means
returns-then-count-left-clause-means g c =
    let few : length c.args.rest.now ≤ max_passed - c.args.connection.now.passed = omega (arith, c.saturating_sub-left.ensures, c.if-count-left.true) in (
      omega (arith, c.if-count-eq0.false),
      omega arith,
      turn_all_passed g.K.Caller.steps g.met.K.Caller.empty c.args.connection.now c.args.world.now c.args.rest.now (length c.args.rest.now) c.requires.aborting refl few,
    )

pub returns-clause-means : goal.returns-clause-means
returns-clause-means g c =
    let left = c.saturating_sub-left.result in
    let room : left ≡ max_passed - c.args.connection.now.passed = omega (arith, c.saturating_sub-left.ensures) in
    let more : left < length c.args.rest.now = omega (arith, c.if-count-left.false) in
    turn_over g.K.Caller.steps g.met.K.Caller.empty g.met.K.Caller.append c.args.connection.now c.die.new.connection c.args.world.now c.die.new.world c.args.rest.now left c.requires.aborting room more c.die.ensures.acts c.die.ensures.dead
