use Rattle.lnbd_script.proofs.LineLemmas.{disconnected, not_disconnected}
use Rattle.lnbd_script.proofs.session.Session.disconnect.Goals as goal

pub returns-in-Ok-clause-told : goal.returns-in-Ok-clause-told
returns-in-Ok-clause-told c seen at = disconnected seen c.args.self.now c.aio_disconnect.new.self at c.in-Ok.ensures.allowed c.in-Ok.ensures.ok

pub returns-in-Err-clause-told : goal.returns-in-Err-clause-told
returns-in-Err-clause-told c seen at = not_disconnected seen c.args.self.now c.aio_disconnect.new.self c.in-Err.why at c.in-Err.ensures.refused c.in-Err.ensures.err
