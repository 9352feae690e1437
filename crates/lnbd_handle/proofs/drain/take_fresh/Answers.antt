use Rattle.std.proofs.Common.{◌≡◌, ◌≤◌, [], true, drop, take, sym, subst, ◌∙◌}
use Rattle.std.specs.Prelude.{vec_len}
use Rattle.lnbd_model.specs.Kind.{is_read}
use Rattle.lnbd_handle.specs.Announcing.{announced_by_front}
use Rattle.lnbd_handle.specs.Held.{held_in}
use Rattle.lnbd_handle.specs.Runs.{Runs}
use Rattle.lnbd_handle.specs.Seen.{machine_of}
use Rattle.lnbd_handle.specs.Turns.{arriving}
use Rattle.lnbd_handle.proofs.AnnouncedLemmas.{said_empty}
use Rattle.lnbd_handle.proofs.DrainLemmas.{drained_whole}
use Rattle.lnbd_handle.proofs.CalmLemmas.{runs_calm}
use Rattle.lnbd_handle.proofs.HeadLemmas.{not_err, ok_of}
use Rattle.lnbd_handle.specs.Seen.{state_of}
use Rattle.lnbd_handle.specs.Turns.{ShowsNothing}
use Rattle.lnbd_handle.proofs.RoomLemmas.{runs_lasting}
use Rattle.lnbd_handle.proofs.drain.take_fresh.Goals as goal

pub returns-clause-arrives : goal.returns-clause-arrives
returns-clause-arrives g c =
    let old = c.args.connection.now in
    let new = c.drain-taken.new.connection in
    let items : held_in c.hold_rest.new.pending ≡ drop c.drain-taken.result.used c.args.bytes.now = ok_of c.hold_rest.result (sym c.if-is_err.ensures.value) c.hold_rest.ensures.ok ∙ c.split_at.ensures.back in
    subst (λ p. Runs g.K.Caller.steps (arriving c.args.bytes.now) (machine_of old p) (machine_of new (held_in c.hold_rest.new.pending)) c.args.world.now c.drain-taken.new.world) (sym c.requires.fresh)
    (subst (λ x. Runs g.K.Caller.steps (arriving c.args.bytes.now) (machine_of old []) (machine_of new x) c.args.world.now c.drain-taken.new.world) (sym items)
    (drained_whole g.K.Caller.steps g.met.K.Caller.empty g.met.K.Caller.append old new c.args.world.now c.drain-taken.new.world c.args.bytes.now c.drain-taken.result c.drain-taken.ensures.drained c.if-taken.false))

pub hold_rest-requires-clause-fits : goal.hold_rest-requires-clause-fits
hold_rest-requires-clause-fits g c = (runs_lasting (λ kind length flight. is_read kind ≡ true → length ≤ vec_len c.args.pending.now.content) g.K.Caller.steps (take c.drain-taken.result.used c.args.bytes.now) (machine_of c.args.connection.now []) (machine_of c.drain-taken.new.connection []) c.args.world.now c.drain-taken.new.world c.drain-taken.ensures.drained.so_far (c.requires.fits, c.requires.ordered)).0

pub hold_rest-requires-clause-partial : goal.hold_rest-requires-clause-partial
hold_rest-requires-clause-partial g c =
    subst (λ b. ShowsNothing (state_of c.drain-taken.new.connection) b) (sym c.split_at.ensures.back) (c.drain-taken.ensures.drained.rest c.if-taken.false)

pub returns-then-is_err-clause-memory : goal.returns-then-is_err-clause-memory
returns-then-is_err-clause-memory g c calm =
    absurd (not_err c.hold_rest.result
    (c.hold_rest.ensures.memory (λ speaking. (runs_calm g.K.Caller.steps (take c.drain-taken.result.used c.args.bytes.now) (machine_of c.args.connection.now []) (machine_of c.drain-taken.new.connection []) c.args.world.now c.drain-taken.new.world c.drain-taken.ensures.drained.so_far calm speaking).0))
    (sym c.if-is_err.ensures.value))

pub hold_rest-requires-clause-ordered : goal.hold_rest-requires-clause-ordered
hold_rest-requires-clause-ordered g c = (runs_lasting (λ kind length flight. is_read kind ≡ true → length ≤ vec_len c.args.pending.now.content) g.K.Caller.steps (take c.drain-taken.result.used c.args.bytes.now) (machine_of c.args.connection.now []) (machine_of c.drain-taken.new.connection []) c.args.world.now c.drain-taken.new.world c.drain-taken.ensures.drained.so_far (c.requires.fits, c.requires.ordered)).1

pub hold_rest-requires-clause-announces : goal.hold_rest-requires-clause-announces
hold_rest-requires-clause-announces g c =
    subst (λ b. c.drain-taken.result.announced ≡ announced_by_front (state_of c.drain-taken.new.connection) b) (sym c.split_at.ensures.back) (c.drain-taken.ensures.drained.announces c.if-taken.false)

-- what holds nothing announces nothing
pub returns-then-taken-clause-said : goal.returns-then-taken-clause-said
returns-then-taken-clause-said g c = said_empty (state_of c.drain-taken.new.connection) c.args.pending.now c.requires.kept c.requires.fresh c.requires.unannounced
