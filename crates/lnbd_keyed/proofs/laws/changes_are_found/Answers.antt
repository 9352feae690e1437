use Rattle.lnbd_keyed.proofs.LookupLaws.{value_at_pair, value_at_with_some, value_at_without, value_at_last}
use Rattle.lnbd_keyed.proofs.laws.changes_are_found.Goals as goal

pub returns-clause-put : goal.returns-clause-put
returns-clause-put g c = value_at_pair

pub returns-clause-changed : goal.returns-clause-changed
returns-clause-changed g c = value_at_with_some

pub returns-clause-removed : goal.returns-clause-removed
returns-clause-removed g c = value_at_without

pub returns-clause-last : goal.returns-clause-last
returns-clause-last g c = value_at_last
