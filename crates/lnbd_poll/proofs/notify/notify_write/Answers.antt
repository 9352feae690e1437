use Rattle.std.proofs.Common.{◌∙◌, refl, sym}
use Rattle.lnbd_poll.proofs.NoticeLemmas.{write_idle, write_made}
use Rattle.lnbd_poll.proofs.notify.notify_write.Goals as goal

pub returns-then-not-is_waiting-clause-writes : goal.returns-then-not-is_waiting-clause-writes
returns-then-not-is_waiting-clause-writes g c = write_idle _ _ c.args.link _ (sym c.is_waiting.ensures.value ∙ c.if-not-is_waiting.true) refl

pub returns-clause-writes : goal.returns-clause-writes
returns-clause-writes g c = write_made _ _ c.args.link _ _ _ c.write-took.result c.count.result (sym c.is_waiting.ensures.value ∙ c.if-not-is_waiting.false) c.out.ensures.value c.write-took.ensures.told c.count.ensures.sends
