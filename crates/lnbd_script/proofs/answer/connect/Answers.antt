use Rattle.std.proofs.Common.{sym, ◌∙◌}
use Rattle.lnbd_script.proofs.LineLemmas.{connect_refused}
use Rattle.lnbd_script.proofs.answer.connect.Goals as goal

pub returns-then-not-is_created-clause-told : goal.returns-then-not-is_created-clause-told
returns-then-not-is_created-clause-told g c seen at = connect_refused seen _ _ _ _ at c.state-state.ensures.value (sym c.is_created.ensures ∙ c.if-not-is_created.true)
