use Rattle.std.proofs.Common.{rules}
use Rattle.lnbd_handle.proofs.HistoryLemmas.{state_told}
use Rattle.lnbd_handle.proofs.handle.Handle.state.Goals as goal

pub returns-clause-told : goal.returns-clause-told
returns-clause-told g c = state_told c.args.self.now.machine c.state_at.result (search rules)
