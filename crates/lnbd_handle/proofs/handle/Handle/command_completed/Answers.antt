use Rattle.std.proofs.Common.{rules, ap, ◌∙◌}
use Rattle.lnbd_handle.specs.Completing.{completing}
use Rattle.lnbd_handle.specs.Held.{held_in}
use Rattle.lnbd_handle.specs.Seen.{machine_of}
use Rattle.lnbd_handle.proofs.ResultLemmas.{idle_result, took_result}
use Rattle.lnbd_handle.proofs.HistoryLemmas.{adds_result, completed_told}
use Rattle.lnbd_handle.proofs.PlacesLemmas.{places_retired}
use Rattle.lnbd_handle.proofs.PlacingLemmas.{same_machine}
use Rattle.lnbd_handle.proofs.handle.Handle.command_completed.Goals as goal

pub invariant_of-self : goal.invariant_of-self
invariant_of-self g c =
    let whole = (took_result c.take_completed.result c.args.cookie c.self.inside.connection (held_in c.self.inside.pending) c.take_completed.new.self c.take_completed.ensures.sound c.take_completed.ensures.completed c.take_completed.ensures.taken (c.self.invariant.0, c.self.invariant.1)).1 in (
      whole.0,
      whole.1,
      places_retired c.take_completed.result c.args.cookie c.self.inside.connection c.take_completed.new.self c.self.inside.pending c.take_completed.ensures.taken c.take_completed.ensures.sound.cookies
          (idle_result c.take_completed.result c.args.cookie c.self.inside.connection.commands c.take_completed.ensures.sound c.take_completed.ensures.completed) c.self.invariant.1 c.self.invariant.2,
    )

pub returns-clause-taken : goal.returns-clause-taken
returns-clause-taken g c =
    (took_result c.take_completed.result c.args.cookie c.self.inside.connection (held_in c.self.inside.pending) c.take_completed.new.self c.take_completed.ensures.sound c.take_completed.ensures.completed c.take_completed.ensures.taken (c.self.invariant.0, c.self.invariant.1)).0
    ∙ ap (completing c.take_completed.result c.args.cookie) (same_machine c.self.view_is)

pub returns-clause-stands : goal.returns-clause-stands
returns-clause-stands g c =
    adds_result c.take_completed.result c.args.cookie c.args.self.now.machine (machine_of (record c.self.inside.connection { commands = c.take_completed.new.self }) (held_in c.self.inside.pending)) (search rules) (returns-clause-taken g c)

pub returns-clause-told : goal.returns-clause-told
returns-clause-told g c = completed_told c.args.self.now.machine c.args.cookie c.take_completed.result (search rules)
