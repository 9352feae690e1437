use Rattle.std.proofs.Common.{rules}
use Rattle.std.specs.Option.{option_copied}
use Rattle.lnbd_handle.proofs.HistoryLemmas.{info_told}
use Rattle.lnbd_handle.proofs.handle.Handle.info.Goals as goal

pub returns-clause-told : goal.returns-clause-told
returns-clause-told g c = info_told c.args.self.now.machine (option_copied c.info.result) (search rules)
