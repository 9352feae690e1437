use Rattle.std.proofs.Common.{◌∙◌}
use Rattle.lnbd_keyed.proofs.KeyedLemmas.{value_at_without_other}
use Rattle.tests_handle.proofs.callbacks.end.Goals as goal

pub complete-requires-clause-live : goal.complete-requires-clause-live
complete-requires-clause-live c = rw c.free.ensures.desk (value_at_without_other c.args.done.number c.args.first.number c.args.desk.now.log.live c.requires.apart ∙ c.requires.done)
