use Rattle.std.proofs.Common.{ap}
use Rattle.lnbd_server.specs.Session.{Session}
use Rattle.lnbd_serve.proofs.TurnLemmas.{replied_once, reply_breaks, lacks_reply}
use Rattle.lnbd_serve.proofs.guest.Guest.reply_once.Goals as goal

pub returns-in-Ok-flush-clause-ok : goal.returns-in-Ok-flush-clause-ok
returns-in-Ok-flush-clause-ok g c = replied_once _ _ _ c.args.self.now _ _ c.args.export.now c.requires.here c.requires.some c.in-Ok.ensures.ok c.in-Ok-flush.ensures.ok

pub returns-in-Err-flush-clause-err : goal.returns-in-Err-flush-clause-err
returns-in-Err-flush-clause-err g c = reply_breaks _ _ c.args.self.now _ _ c.args.export.now _ c.requires.here c.requires.some c.in-Ok.ensures.ok c.in-Err-flush.ensures.err

pub returns-in-Err-clause-err : goal.returns-in-Err-clause-err
returns-in-Err-clause-err g c = lacks_reply _ c.args.self.now _ c.args.export.now c.requires.some (ap (λ (s : Session). record c.args.self.now { session = s }) c.in-Err.ensures.err)
