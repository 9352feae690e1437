use Rattle.std.proofs.Common.{rules}
use Rattle.lnbd_handle.proofs.OptionLemmas.{listed_told}
use Rattle.lnbd_handle.proofs.handle.Handle.listed.Goals as goal

pub returns-clause-told : goal.returns-clause-told
returns-clause-told g c = listed_told c.args.self.now.machine c.listed.result.now (search rules)
