use Rattle.std.proofs.Common.{subst}
use Rattle.lnbd_history.specs.Commands.{Command}
use Rattle.lnbd_machine.specs.Machine.{Machine}
use Rattle.lnbd_commands.specs.Asks.{command_of}
use Rattle.lnbd_handle.specs.Held.{held_in}
use Rattle.lnbd_handle.specs.Issues.{Faults, FaultsUnread}
use Rattle.lnbd_handle.specs.Seen.{machine_of}
use Rattle.lnbd_handle.proofs.HistoryLemmas.{adds_unread}
use Rattle.lnbd_handle.proofs.IssueLemmas.{faults_partial, faults_unread}
use Rattle.lnbd_handle.proofs.PlacesLemmas.{places_fault}
use Rattle.lnbd_handle.proofs.PlacingLemmas.{same_machine}
use Rattle.lnbd_handle.proofs.handle.Handle.refuse_read.Goals as goal

pub invariant_of-self : goal.invariant_of-self
invariant_of-self g c =
    let pending = c.self.inside.pending in
    let old = machine_of c.self.inside.connection (held_in pending) in
    let new = machine_of c.refuse.new.connection (held_in pending) in
    let command = command_of c.with_range-asked.result in
    let faults = c.refuse.ensures.faults (held_in pending) in (
      c.refuse.ensures.sound,
      faults_partial g.K.Caller.steps command c.refuse.result old new c.args.world.now c.refuse.new.world faults c.self.invariant.1,
      places_fault g.K.Caller.steps command c.refuse.result old new pending c.args.world.now c.refuse.new.world faults c.self.invariant.2,
    )

pub returns-in-Some-clause-faults : goal.returns-in-Some-clause-faults
returns-in-Some-clause-faults g c =
    let a = c.args in
    let pending = c.self.inside.pending in
    let old = machine_of c.self.inside.connection (held_in pending) in
    let new = machine_of c.refuse.new.connection (held_in pending) in
    let unread = faults_unread g.K.Caller.steps a.count a.offset a.first a.done a.flags c.refuse.result old new a.world.now c.refuse.new.world
    (subst (λ (command : Command g.row.K.Denot). Faults g.K.Caller.steps command c.refuse.result old new a.world.now c.refuse.new.world) c.with_range-asked.ensures (c.refuse.ensures.faults (held_in pending))) in
    subst (λ (m : Machine g.row.K.Denot). FaultsUnread g.K.Caller.steps a.count a.offset a.first a.done a.flags c.refuse.result m new a.world.now c.refuse.new.world) (same_machine c.self.view_is) unread

pub returns-in-Some-clause-fault_stands : goal.returns-in-Some-clause-fault_stands
returns-in-Some-clause-fault_stands g c =
    let a = c.args in
    adds_unread g.K.Caller.steps a.self.now.machine (machine_of c.refuse.new.connection (held_in c.self.inside.pending)) a.world.now c.refuse.new.world a.count a.offset a.first a.done a.flags c.refuse.result
    (returns-in-Some-clause-faults g c)
