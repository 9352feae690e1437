use Rattle.std.proofs.Common.{rules}
use Rattle.lnbd_handle.proofs.OptionLemmas.{opt_answer_told}
use Rattle.lnbd_handle.proofs.handle.Handle.opt_answer.Goals as goal

pub returns-clause-told : goal.returns-clause-told
returns-clause-told g c = opt_answer_told c.args.self.now.machine c.answer.result (search rules)
