use Rattle.std.proofs.Common.{sym, ◌∙◌}
use Rattle.lnbd_script.proofs.LineLemmas.{uri_lacks, uri_refused, uri_told}
use Rattle.lnbd_script.proofs.answer.connect_to.Goals as goal

pub returns-then-not-is_created-clause-told : goal.returns-then-not-is_created-clause-told
returns-then-not-is_created-clause-told g c seen at = uri_refused seen _ c.args.place.now _ _ at c.state-state.ensures.value (sym c.is_created.ensures ∙ c.if-not-is_created.true)

pub returns-in-Ok-clause-told : goal.returns-in-Ok-clause-told
returns-in-Ok-clause-told g c seen at = uri_told c.args.place.now seen _ _ _ _ _ c.of_connect.ensures (c.dial_to.ensures.told seen at)

pub returns-in-Err-clause-told : goal.returns-in-Err-clause-told
returns-in-Err-clause-told g c seen at = uri_lacks c.args.place.now seen _ _ at
