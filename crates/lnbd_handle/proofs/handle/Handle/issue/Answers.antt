use Rattle.std.proofs.Common.{rules, sym, subst, arith}
use Rattle.lnbd_machine.specs.Laws.{IsPartial}
use Rattle.lnbd_machine.specs.Machine.{Machine}
use Rattle.lnbd_handle.specs.Issues.{Faults}
use Rattle.lnbd_commands.specs.Asks.{command_of}
use Rattle.lnbd_handle.specs.Held.{held_in}
use Rattle.lnbd_handle.specs.Seen.{machine_of, state_of}
use Rattle.lnbd_handle.proofs.IssueLemmas.{faults_partial, issued_partial, same_partial}
use Rattle.lnbd_handle.proofs.HistoryLemmas.{adds_fault, issue_adds}
use Rattle.lnbd_handle.proofs.HeadLemmas.{ok_of}
use Rattle.lnbd_handle.proofs.PlacesLemmas.{places_as, places_fault, places_grown, places_issued}
use Rattle.lnbd_handle.proofs.PlacingLemmas.{same_machine}
use Rattle.lnbd_handle.proofs.handle.Handle.issue.Goals as goal
use Rattle.lnbd_handle.proofs.handle.Handle.issue.Goals.{in-Ok, in-Err}

pub invariant_of-self : goal.invariant_of-self
invariant_of-self g c = (
  c.refuse.ensures.sound,
  faults_partial g.K.Caller.steps (command_of c.args.asked) c.refuse.result
      (machine_of c.self.inside.connection (held_in c.self.inside.pending)) (machine_of c.refuse.new.connection (held_in c.self.inside.pending)) c.args.world.now c.refuse.new.world (c.refuse.ensures.faults (held_in c.self.inside.pending)) c.self.invariant.1,
  places_fault g.K.Caller.steps (command_of c.args.asked) c.refuse.result (machine_of c.self.inside.connection (held_in c.self.inside.pending)) (machine_of c.refuse.new.connection (held_in c.self.inside.pending)) c.self.inside.pending c.args.world.now c.refuse.new.world (c.refuse.ensures.faults (held_in c.self.inside.pending)) c.self.invariant.2,
)

pub invariant_of-self-2 : goal.invariant_of-self-2
invariant_of-self-2 g c =
    let old = c.self.inside.connection in
    let pending = c.room_for.new.pending in
    let partial = subst (λ held. IsPartial (machine_of old held)) (sym c.room_for.ensures.held) c.self.invariant.1 in
    let places = places_grown (state_of old) c.self.inside.pending pending c.room_for.ensures.grows c.room_for.ensures.head c.room_for.ensures.announced c.room_for.ensures.came c.room_for.ensures.kept c.self.invariant.2 in
    let room = ok_of c.room_for.result (sym c.if-is_err.ensures.value) c.room_for.ensures.ok in (
      c.issue.ensures.sound,
      elim c.match-issue.branch [
        | in-Ok w ↦ issued_partial (command_of c.args.asked) old c.issue.new.connection (held_in pending) w.in-Ok.ensures.ok partial
        | in-Err w ↦ same_partial old c.issue.new.connection (held_in pending) w.in-Err.ensures.err partial
      ],
      elim c.match-issue.branch [
        | in-Ok w ↦ places_issued (command_of c.args.asked) (state_of old) (state_of c.issue.new.connection) pending w.in-Ok.ensures.ok (λ read. let long = c.requires.read read in let fits = room read in omega (arith, long, fits)) partial places
        | in-Err w ↦ places_as (state_of old) (state_of c.issue.new.connection) pending w.in-Err.ensures.err places
      ],
    )

-- For want of room nothing has changed but that.
pub invariant_of-self-then-is_err : goal.invariant_of-self-then-is_err
invariant_of-self-then-is_err g c = (
  c.self.invariant.0,
  subst (λ held. IsPartial (machine_of c.self.inside.connection held)) (sym c.room_for.ensures.held) c.self.invariant.1,
  places_grown (state_of c.self.inside.connection) c.self.inside.pending c.room_for.new.pending c.room_for.ensures.grows c.room_for.ensures.head c.room_for.ensures.announced c.room_for.ensures.came c.room_for.ensures.kept c.self.invariant.2,
)

pub returns-in-Some-clause-faults : goal.returns-in-Some-clause-faults
returns-in-Some-clause-faults g c =
    subst (λ (m : Machine g.row.K.Denot). Faults g.K.Caller.steps (command_of c.args.asked) c.refuse.result m (machine_of c.refuse.new.connection (held_in c.self.inside.pending)) c.args.world.now c.refuse.new.world) (same_machine c.self.view_is)
    (c.refuse.ensures.faults (held_in c.self.inside.pending))

pub returns-in-Some-clause-fault_stands : goal.returns-in-Some-clause-fault_stands
returns-in-Some-clause-fault_stands g c =
    adds_fault g.K.Caller.steps c.args.self.now.machine (machine_of c.refuse.new.connection (held_in c.self.inside.pending)) c.args.world.now c.refuse.new.world (command_of c.args.asked) c.refuse.result (returns-in-Some-clause-faults g c)

pub returns-clause-stands : goal.returns-clause-stands
returns-clause-stands g c =
    issue_adds (command_of c.args.asked) c.args.self.now.machine (machine_of c.issue.new.connection (held_in c.room_for.new.pending)) c.match-issue.result c.requires.write (search rules) (search rules)
