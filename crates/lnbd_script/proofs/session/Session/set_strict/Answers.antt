use Rattle.lnbd_script.proofs.LineLemmas.{strict_not_set, strict_set}
use Rattle.lnbd_script.proofs.session.Session.set_strict.Goals as goal

pub returns-in-Ok-clause-told : goal.returns-in-Ok-clause-told
returns-in-Ok-clause-told c seen at = strict_set seen c.args.self.now c.set_strict_mode.new.self c.args.bits at c.in-Ok.ensures.allowed c.in-Ok.ensures.ok

pub returns-in-Err-clause-told : goal.returns-in-Err-clause-told
returns-in-Err-clause-told c seen at = strict_not_set seen c.args.self.now c.set_strict_mode.new.self c.args.bits c.unknown_bits.result at c.in-Err.ensures.refused.0 c.unknown_bits.ensures c.in-Err.ensures.err
