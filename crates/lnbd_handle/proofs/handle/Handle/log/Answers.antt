use Rattle.std.proofs.Common.{rules}
use Rattle.lnbd_handle.proofs.HistoryLemmas.{log_told}
use Rattle.lnbd_handle.proofs.handle.Handle.log.Goals as goal

pub returns-clause-told : goal.returns-clause-told
returns-clause-told g c = log_told c.args.self.now.machine c.notes.result.now (search rules)
