use Rattle.std.proofs.Common.{rules, refl}
use Rattle.lnbd_history.specs.Events.{Disconnect}
use Rattle.lnbd_handle.specs.Held.{held_in}
use Rattle.lnbd_handle.specs.Seen.{machine_of}
use Rattle.lnbd_handle.proofs.HistoryLemmas.{adds}
use Rattle.lnbd_handle.proofs.handle.Handle.aio_disconnect.Goals as goal

pub returns-clause-stands : goal.returns-clause-stands
returns-clause-stands g c =
    adds Disconnect c.args.self.now.machine (machine_of c.say_goodbye.new.connection (held_in c.self.inside.pending)) (λ history. refl) (search rules) (search rules)
