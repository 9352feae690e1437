use Rattle.std.proofs.Common.{rules, refl}
use Rattle.lnbd_history.specs.Events.{Set, Structured}
use Rattle.lnbd_handle.specs.Held.{held_in}
use Rattle.lnbd_handle.specs.Seen.{machine_of}
use Rattle.lnbd_handle.proofs.HistoryLemmas.{adds}
use Rattle.lnbd_handle.proofs.handle.Handle.set_request_structured_replies.Goals as goal

pub returns-in-Created-clause-stands : goal.returns-in-Created-clause-stands
returns-in-Created-clause-stands g c =
    let new = machine_of (record c.self.inside.connection { talk = c.set_structured.new.self }) (held_in c.self.inside.pending) in
    adds (Set (Structured c.args.on)) c.args.self.now.machine new (λ history. refl) (search rules) (search rules)
