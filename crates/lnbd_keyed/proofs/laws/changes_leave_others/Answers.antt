use Rattle.lnbd_keyed.proofs.LookupLaws.{value_at_pair_other, value_at_with_other, value_at_without_other, value_at_last_other}
use Rattle.lnbd_keyed.proofs.laws.changes_leave_others.Goals as goal

pub returns-clause-put : goal.returns-clause-put
returns-clause-put g c = value_at_pair_other

pub returns-clause-changed : goal.returns-clause-changed
returns-clause-changed g c = value_at_with_other

pub returns-clause-removed : goal.returns-clause-removed
returns-clause-removed g c = value_at_without_other

pub returns-clause-last : goal.returns-clause-last
returns-clause-last g c = value_at_last_other
