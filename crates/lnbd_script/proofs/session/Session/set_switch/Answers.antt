use Rattle.lnbd_script.proofs.LineLemmas.{switch_not_set, switch_set}
use Rattle.lnbd_script.proofs.session.Session.set_switch.Goals as goal

pub returns-in-Ok-clause-told : goal.returns-in-Ok-clause-told
returns-in-Ok-clause-told c seen at = switch_set seen c.args.self.now c.turn.new.handle c.args.switch c.args.on at c.in-Ok.ensures.allowed c.in-Ok.ensures.ok

pub returns-in-Err-State-clause-told : goal.returns-in-Err-State-clause-told
returns-in-Err-State-clause-told c seen at = switch_not_set seen c.args.self.now c.turn.new.handle c.args.switch c.args.on c.in-Err-State.state at c.in-Err-State.ensures.refused.0 (cc c.in-Err-State.ensures.refused.1) c.in-Err-State.ensures.err
