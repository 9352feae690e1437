use Rattle.std.proofs.Common.{rules}
use Rattle.lnbd_handle.proofs.HistoryLemmas.{out_told}
use Rattle.lnbd_handle.proofs.handle.Handle.out.Goals as goal

pub returns-clause-told : goal.returns-clause-told
returns-clause-told g c = out_told c.args.self.now.machine c.offered.result.now (search rules)
