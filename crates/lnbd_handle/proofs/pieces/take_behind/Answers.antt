use Rattle.std.proofs.Common.{◌≡◌, ◌≤◌, true, Ok, Err, [], length, take, refl, ap, sym, ◌∙◌, subst, arith}
use Rattle.std.specs.Prelude.{vec_len}
use Rattle.std.proofs.lemmas.List.{length-drop, length-take}
use Rattle.lnbd_model.specs.Kind.{is_read}
use Rattle.lnbd_arrivals.specs.Frames.{front_size}
use Rattle.lnbd_handle.specs.Announcing.{replies_in}
use Rattle.lnbd_handle.specs.Held.{held_in}
use Rattle.lnbd_handle.specs.Room.{HasPlacesAt, IsQuiet, KeepsFrontAt, ReadsFit}
use Rattle.lnbd_handle.specs.Runs.{Runs}
use Rattle.lnbd_handle.specs.Seen.{machine_of, state_of}
use Rattle.lnbd_handle.specs.Turns.{arriving, Arrives}
use Rattle.lnbd_handle.proofs.AnnouncedLemmas.{came_some, said_none}
use Rattle.lnbd_handle.proofs.CalmLemmas.{runs_calm}
use Rattle.lnbd_handle.proofs.HoldLemmas.{lacks_within}
use Rattle.lnbd_handle.proofs.RoomLemmas.{runs_lasting}
use Rattle.lnbd_handle.proofs.RunLemmas.{runs_none}
use Rattle.lnbd_handle.proofs.DrainLemmas.{arrives_some, took_all, took_some}
use Rattle.lnbd_handle.proofs.pieces.take_behind.Goals as goal

pub loop-used-init : goal.loop-used-init
loop-used-init g c =
    let old = machine_of c.args.connection.now (held_in c.args.pending.now) in
    record { within = omega arith; sound = c.requires.sound; same = refl; room = refl; places = c.requires.places; partial = c.requires.partial; so_far = runs_none g.K.Caller.steps g.met.K.Caller.empty (arriving []) old old c.args.world.now c.args.world.now refl (λ more made. refl) }

pub loop-used-preserved : goal.loop-used-preserved
loop-used-preserved g c =
    let now = machine_of c.loop-used.connection (held_in c.loop-used.pending) in
    let next = machine_of c.hold.new.connection (held_in c.hold.new.pending) in
    let means = c.in-More.ensures.means in
    let p = c.loop-used.invariant.places in
    let same = c.in-More.ensures.still refl in
    record {
      within = omega (arith, c.min-most.ensures, ap length c.split_at.ensures.back, length-drop c.loop-used.used c.args.bytes.now, c.loop-used.invariant.within);
      sound = c.in-More.ensures.sound;
      same = same ∙ c.loop-used.invariant.same;
      room = c.in-More.ensures.room ∙ c.loop-used.invariant.room;
      places = subst (λ k. HasPlacesAt (state_of k) c.hold.new.pending) (sym same) (record {
        kept = c.in-More.ensures.kept;
        fits = subst (λ n. ReadsFit n c.loop-used.connection.commands.rows) (sym c.in-More.ensures.room) p.fits;
        ordered = p.ordered;
        said = subst (λ k. KeepsFrontAt (state_of k) c.hold.new.pending) same c.in-More.ensures.said;
      });
      partial = means.1;
      so_far = arrives_some g.K.Caller.steps g.met.K.Caller.empty g.met.K.Caller.append (machine_of c.args.connection.now (held_in c.args.pending.now)) now next c.args.world.now c.loop-used.world c.hold.new.world c.args.bytes.now c.loop-used.used c.loop-used.invariant.so_far
          c.split_at.result.1.now c.min-most.result c.split_at.ensures.back
          (subst (λ b. Runs g.K.Caller.steps (arriving b) now next c.loop-used.world c.hold.new.world) c.split_at-in-loop-used.ensures.front means.0);
    }

pub returns-in-Ok-clause-arrives : goal.returns-in-Ok-clause-arrives
returns-in-Ok-clause-arrives g c =
    let old = c.args.connection.now in
    let held = held_in c.args.pending.now in
    let now = c.loop-used.connection in
    let next = c.hold.new.connection in
    let bytes = c.args.bytes.now in
    let rest = c.split_at.result.1.now in
    let front = c.split_at-in-loop-used.result.0.now in
    let means = c.in-Took.ensures.means in
    let half = c.loop-used.world in
    let third = c.hold.new.world in
    let arrives = subst (λ h. Arrives g.K.Caller.steps next h third c.split_at-in-Took.result.1.now (Ok tt) c.take_fresh.new.connection (held_in c.take_fresh.new.pending) c.take_fresh.new.world) means.2 c.in-Ok.ensures.arrives in
    took_all g.K.Caller.steps g.met.K.Caller.empty g.met.K.Caller.append old held now (held_in c.loop-used.pending) next c.args.world.now half third bytes rest front c.split_at-in-Took.result.1.now c.loop-used.used c.min-most.result c.in-Took.n c.split_at.ensures.back c.split_at-in-loop-used.ensures.front c.split_at-in-Took.ensures.back c.loop-used.invariant.within means.0 c.loop-used.invariant.so_far means.1 c.take_fresh.new.connection (held_in c.take_fresh.new.pending) c.take_fresh.new.world arrives

pub returns-in-Err-clause-arrives : goal.returns-in-Err-clause-arrives
returns-in-Err-clause-arrives g c =
    let old = c.args.connection.now in
    let held = held_in c.args.pending.now in
    let now = c.loop-used.connection in
    let next = c.hold.new.connection in
    let bytes = c.args.bytes.now in
    let rest = c.split_at.result.1.now in
    let front = c.split_at-in-loop-used.result.0.now in
    let means = c.in-Took.ensures.means in
    let half = c.loop-used.world in
    let third = c.hold.new.world in
    let arrives = subst (λ h. Arrives g.K.Caller.steps next h third c.split_at-in-Took.result.1.now (Err c.in-Err.short) c.take_fresh.new.connection (held_in c.take_fresh.new.pending) c.take_fresh.new.world) means.2 c.in-Err.ensures.arrives in
    took_some g.K.Caller.steps g.met.K.Caller.empty g.met.K.Caller.append old held now (held_in c.loop-used.pending) next c.args.world.now half third bytes rest front c.split_at-in-Took.result.1.now c.loop-used.used c.min-most.result c.in-Took.n c.split_at.ensures.back c.split_at-in-loop-used.ensures.front c.split_at-in-Took.ensures.back c.loop-used.invariant.within means.0 c.loop-used.invariant.so_far means.1 c.take_fresh.new.connection (held_in c.take_fresh.new.pending) c.take_fresh.new.world c.in-Err.short.taken arrives.0 arrives.1

-- What is taken behind a record is read where the buffer still has room.
pub take_fresh-requires-clause-fits : goal.take_fresh-requires-clause-fits
take_fresh-requires-clause-fits g c =
    let p = c.loop-used.invariant.places in
    subst (λ n. ReadsFit n c.hold.new.connection.commands.rows) (sym c.in-Took.ensures.room)
    (runs_lasting (λ kind length flight. is_read kind ≡ true → length ≤ vec_len c.loop-used.pending.content) g.K.Caller.steps (take c.in-Took.n c.split_at-in-loop-used.result.0.now) (machine_of c.loop-used.connection (held_in c.loop-used.pending)) (machine_of c.hold.new.connection []) c.loop-used.world c.hold.new.world c.in-Took.ensures.means.1 (p.fits, p.ordered)).0

pub take_fresh-requires-clause-ordered : goal.take_fresh-requires-clause-ordered
take_fresh-requires-clause-ordered g c =
    let p = c.loop-used.invariant.places in
    (runs_lasting (λ kind length flight. is_read kind ≡ true → length ≤ vec_len c.loop-used.pending.content) g.K.Caller.steps (take c.in-Took.n c.split_at-in-loop-used.result.0.now) (machine_of c.loop-used.connection (held_in c.loop-used.pending)) (machine_of c.hold.new.connection []) c.loop-used.world c.hold.new.world c.in-Took.ensures.means.1 (p.fits, p.ordered)).1

pub returns-in-Err-clause-memory : goal.returns-in-Err-clause-memory
returns-in-Err-clause-memory g c quiet =
    let now : IsQuiet (state_of c.loop-used.connection) = subst (λ k. IsQuiet (state_of k)) (sym c.loop-used.invariant.same) quiet in
    c.in-Err.ensures.memory (runs_calm g.K.Caller.steps (take c.in-Took.n c.split_at-in-loop-used.result.0.now) (machine_of c.loop-used.connection (held_in c.loop-used.pending)) (machine_of c.hold.new.connection []) c.loop-used.world c.hold.new.world c.in-Took.ensures.means.1 (λ speaking. now))

pub returns-in-Short-clause-memory : goal.returns-in-Short-clause-memory
returns-in-Short-clause-memory g c quiet =
    let now : IsQuiet (state_of c.loop-used.connection) = subst (λ k. IsQuiet (state_of k)) (sym c.loop-used.invariant.same) quiet in
    absurd (c.in-Short.ensures.memory now refl)

-- No more is held than the record lacks.
pub hold-requires-clause-within : goal.hold-requires-clause-within
hold-requires-clause-within g c ready =
    let state = state_of c.loop-used.connection in
    let p = c.loop-used.pending in
    let places = c.loop-used.invariant.places in
    lacks_within (front_size (replies_in state)) p.announced p c.lacking.result (length c.split_at-in-loop-used.result.0.now) c.lacking.ensures.data (came_some state p places.kept places.ordered places.said c.loop-used.invariant.partial) c.lacking.ensures.front
    (omega (arith, ap length c.split_at-in-loop-used.ensures.front, length-take c.min-most.result c.split_at.result.1.now, c.min-most.ensures)) ready

pub take_fresh-requires-clause-unannounced : goal.take_fresh-requires-clause-unannounced
take_fresh-requires-clause-unannounced g c = said_none (state_of c.hold.new.connection) c.hold.new.pending c.in-Took.ensures.kept c.in-Took.ensures.said c.in-Took.ensures.means.2
