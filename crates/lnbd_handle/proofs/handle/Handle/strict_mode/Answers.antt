use Rattle.std.proofs.Common.{rules}
use Rattle.lnbd_handle.proofs.HistoryLemmas.{strict_told}
use Rattle.lnbd_handle.proofs.handle.Handle.strict_mode.Goals as goal

pub returns-clause-told : goal.returns-clause-told
returns-clause-told g c = strict_told c.args.self.now.machine c.self.inside.connection.strict (search rules)
