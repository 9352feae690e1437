use Rattle.std.proofs.Common.{rules}
use Rattle.lnbd_handle.proofs.HistoryLemmas.{failure_told}
use Rattle.lnbd_handle.proofs.handle.Handle.failure.Goals as goal

pub returns-clause-told : goal.returns-clause-told
returns-clause-told g c = failure_told c.args.self.now.machine c.args.cookie c.failure.result (search rules)
