use Rattle.std.proofs.Common.{take, OnOk, IfErr, sym, subst}
use Rattle.lnbd_history.specs.Events.{Arrived}
use Rattle.lnbd_handle.specs.Held.{held_in}
use Rattle.lnbd_handle.specs.Runs.{Answered}
use Rattle.lnbd_handle.specs.Seen.{machine_of, state_of}
use Rattle.lnbd_handle.proofs.AnnouncedLemmas.{said_none}
use Rattle.lnbd_handle.proofs.ArriveLemmas.{arrives_partial, arrives_ok, arrives_short}
use Rattle.lnbd_handle.proofs.HistoryLemmas.{arrived_adds, short_adds}
use Rattle.lnbd_handle.specs.Room.{IsPlain}
use Rattle.lnbd_handle.proofs.PlacesLemmas.{held_speaks, places_arrived, plain_calm}
use Rattle.lnbd_handle.proofs.PlacingLemmas.{same_machine}
use Rattle.lnbd_handle.proofs.handle.Handle.arrive.Goals as goal

pub invariant_of-self : goal.invariant_of-self
invariant_of-self g c = (
  c.take_fresh.ensures.sound,
  arrives_partial g.K.Caller.steps c.self.inside.connection c.take_fresh.new.connection (held_in c.self.inside.pending) (held_in c.take_fresh.new.pending) c.args.bytes.now c.args.world.now c.take_fresh.new.world c.take_fresh.result
      c.take_fresh.ensures.arrives c.self.invariant.1,
  places_arrived g.K.Caller.steps c.self.inside.connection c.take_fresh.new.connection c.self.inside.pending c.take_fresh.new.pending c.args.bytes.now c.args.world.now c.take_fresh.new.world c.take_fresh.result c.take_fresh.ensures.arrives c.take_fresh.ensures.kept c.take_fresh.ensures.room c.take_fresh.ensures.said c.self.invariant.2,
)

pub invariant_of-self-else-is_empty : goal.invariant_of-self-else-is_empty
invariant_of-self-else-is_empty g c = (
  c.take_behind.ensures.sound,
  arrives_partial g.K.Caller.steps c.self.inside.connection c.take_behind.new.connection (held_in c.self.inside.pending) (held_in c.take_behind.new.pending) c.args.bytes.now c.args.world.now c.take_behind.new.world c.take_behind.result
      c.take_behind.ensures.arrives c.self.invariant.1,
  places_arrived g.K.Caller.steps c.self.inside.connection c.take_behind.new.connection c.self.inside.pending c.take_behind.new.pending c.args.bytes.now c.args.world.now c.take_behind.new.world c.take_behind.result c.take_behind.ensures.arrives c.take_behind.ensures.kept c.take_behind.ensures.room c.take_behind.ensures.said c.self.invariant.2,
)

-- where nothing is held nothing is announced
pub take_fresh-requires-clause-unannounced : goal.take_fresh-requires-clause-unannounced
take_fresh-requires-clause-unannounced g c = said_none (state_of c.self.inside.connection) c.self.inside.pending c.self.invariant.2.kept c.self.invariant.2.said (c.is_empty.ensures.none c.if-is_empty.true)

pub returns-then-is_empty-clause-ok : goal.returns-then-is_empty-clause-ok
returns-then-is_empty-clause-ok g c =
    subst (λ m. OnOk c.take_fresh.result (Answered g.K.Caller.steps (Arrived c.args.bytes.now) m (machine_of c.take_fresh.new.connection (held_in c.take_fresh.new.pending)) c.args.world.now c.take_fresh.new.world)) (same_machine c.self.view_is)
    (arrives_ok g.K.Caller.steps c.self.inside.connection c.take_fresh.new.connection (held_in c.self.inside.pending) (held_in c.take_fresh.new.pending) c.args.bytes.now c.args.world.now c.take_fresh.new.world c.take_fresh.result c.take_fresh.ensures.arrives)

pub returns-then-is_empty-clause-short : goal.returns-then-is_empty-clause-short
returns-then-is_empty-clause-short g c =
    subst (λ m. IfErr c.take_fresh.result (λ short. Answered g.K.Caller.steps (Arrived (take short.taken c.args.bytes.now)) m (machine_of c.take_fresh.new.connection (held_in c.take_fresh.new.pending)) c.args.world.now c.take_fresh.new.world)) (same_machine c.self.view_is)
    (arrives_short g.K.Caller.steps c.self.inside.connection c.take_fresh.new.connection (held_in c.self.inside.pending) (held_in c.take_fresh.new.pending) c.args.bytes.now c.args.world.now c.take_fresh.new.world c.take_fresh.result c.take_fresh.ensures.arrives)

pub returns-else-is_empty-clause-ok : goal.returns-else-is_empty-clause-ok
returns-else-is_empty-clause-ok g c =
    subst (λ m. OnOk c.take_behind.result (Answered g.K.Caller.steps (Arrived c.args.bytes.now) m (machine_of c.take_behind.new.connection (held_in c.take_behind.new.pending)) c.args.world.now c.take_behind.new.world)) (same_machine c.self.view_is)
    (arrives_ok g.K.Caller.steps c.self.inside.connection c.take_behind.new.connection (held_in c.self.inside.pending) (held_in c.take_behind.new.pending) c.args.bytes.now c.args.world.now c.take_behind.new.world c.take_behind.result c.take_behind.ensures.arrives)

pub returns-else-is_empty-clause-short : goal.returns-else-is_empty-clause-short
returns-else-is_empty-clause-short g c =
    subst (λ m. IfErr c.take_behind.result (λ short. Answered g.K.Caller.steps (Arrived (take short.taken c.args.bytes.now)) m (machine_of c.take_behind.new.connection (held_in c.take_behind.new.pending)) c.args.world.now c.take_behind.new.world)) (same_machine c.self.view_is)
    (arrives_short g.K.Caller.steps c.self.inside.connection c.take_behind.new.connection (held_in c.self.inside.pending) (held_in c.take_behind.new.pending) c.args.bytes.now c.args.world.now c.take_behind.new.world c.take_behind.result c.take_behind.ensures.arrives)

pub returns-then-is_empty-clause-stands : goal.returns-then-is_empty-clause-stands
returns-then-is_empty-clause-stands g c =
    arrived_adds g.K.Caller.steps c.args.self.now.machine (machine_of c.take_fresh.new.connection (held_in c.take_fresh.new.pending)) c.args.bytes.now c.args.world.now c.take_fresh.new.world c.requires c.take_fresh.result (returns-then-is_empty-clause-ok g c)

pub returns-then-is_empty-clause-short_stands : goal.returns-then-is_empty-clause-short_stands
returns-then-is_empty-clause-short_stands g c =
    short_adds g.K.Caller.steps c.args.self.now.machine (machine_of c.take_fresh.new.connection (held_in c.take_fresh.new.pending)) c.args.bytes.now c.args.world.now c.take_fresh.new.world c.requires c.take_fresh.result (returns-then-is_empty-clause-short g c)

pub returns-else-is_empty-clause-stands : goal.returns-else-is_empty-clause-stands
returns-else-is_empty-clause-stands g c =
    arrived_adds g.K.Caller.steps c.args.self.now.machine (machine_of c.take_behind.new.connection (held_in c.take_behind.new.pending)) c.args.bytes.now c.args.world.now c.take_behind.new.world c.requires c.take_behind.result (returns-else-is_empty-clause-ok g c)

pub returns-else-is_empty-clause-short_stands : goal.returns-else-is_empty-clause-short_stands
returns-else-is_empty-clause-short_stands g c =
    short_adds g.K.Caller.steps c.args.self.now.machine (machine_of c.take_behind.new.connection (held_in c.take_behind.new.pending)) c.args.bytes.now c.args.world.now c.take_behind.new.world c.requires c.take_behind.result (returns-else-is_empty-clause-short g c)

pub returns-then-is_empty-clause-memory : goal.returns-then-is_empty-clause-memory
returns-then-is_empty-clause-memory g c plain =
    c.take_fresh.ensures.memory (plain_calm c.self.inside.connection c.self.inside.pending c.self.invariant.0 c.self.invariant.2 (subst (λ m. IsPlain m.known) (sym (same_machine c.self.view_is)) plain))

pub returns-else-is_empty-clause-memory : goal.returns-else-is_empty-clause-memory
returns-else-is_empty-clause-memory g c plain =
    c.take_behind.ensures.memory (plain_calm c.self.inside.connection c.self.inside.pending c.self.invariant.0 c.self.invariant.2 (subst (λ m. IsPlain m.known) (sym (same_machine c.self.view_is)) plain)
    (held_speaks c.self.inside.connection (held_in c.self.inside.pending) c.self.invariant.1 (c.is_empty.ensures.some c.if-is_empty.false)))
