use Rattle.std.proofs.Common.{rules}
use Rattle.lnbd_handle.proofs.HistoryLemmas.{peeked_told}
use Rattle.lnbd_handle.proofs.handle.Handle.peek.Goals as goal

pub returns-clause-told : goal.returns-clause-told
returns-clause-told g c = peeked_told c.args.self.now.machine c.peek.result (search rules)
