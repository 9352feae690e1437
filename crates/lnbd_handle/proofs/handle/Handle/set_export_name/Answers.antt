use Rattle.std.proofs.Common.{rules, refl}
use Rattle.lnbd_history.specs.Events.{Set, Name}
use Rattle.lnbd_handle.specs.Held.{held_in}
use Rattle.lnbd_handle.specs.Seen.{machine_of}
use Rattle.lnbd_handle.proofs.HistoryLemmas.{adds}
use Rattle.lnbd_handle.proofs.handle.Handle.set_export_name.Goals as goal

pub returns-clause-stands : goal.returns-clause-stands
returns-clause-stands g c =
    let new = machine_of (record c.self.inside.connection { talk = c.set_name.new.self }) (held_in c.self.inside.pending) in
    adds (Set (Name c.args.name)) c.args.self.now.machine new (λ history. refl) (search rules) (search rules)
