use Rattle.std.proofs.Common.{rules, refl}
use Rattle.lnbd_history.specs.Events.{Set, Context}
use Rattle.lnbd_handle.specs.Held.{held_in}
use Rattle.lnbd_handle.specs.Seen.{machine_of}
use Rattle.lnbd_handle.proofs.HistoryLemmas.{adds}
use Rattle.lnbd_handle.proofs.handle.Handle.add_meta_context.Goals as goal

pub returns-clause-stands : goal.returns-clause-stands
returns-clause-stands g c =
    let new = machine_of (record c.self.inside.connection { talk = c.add_context.new.self }) (held_in c.self.inside.pending) in
    adds (Set (Context c.args.name)) c.args.self.now.machine new (λ history. refl) (search rules) (search rules)
