use Rattle.lnbd_script.proofs.LineLemmas.{named, not_named}
use Rattle.lnbd_script.proofs.session.Session.set_name.Goals as goal

pub returns-in-Ok-clause-ok : goal.returns-in-Ok-clause-ok
returns-in-Ok-clause-ok c seen at = named seen c.args.self.now c.set_export_name.new.self c.args.name.now c.in_ok-name.name at c.in_ok-name.ensures c.in-Ok.ensures.allowed c.in-Ok.ensures.ok

pub returns-in-Err-State-clause-ok : goal.returns-in-Err-State-clause-ok
returns-in-Err-State-clause-ok c seen at = not_named seen c.args.self.now c.set_export_name.new.self c.args.name.now c.in-Err-State.state at c.in-Err-State.ensures.refused.0 (cc c.in-Err-State.ensures.refused.1) c.in-Err-State.ensures.err
