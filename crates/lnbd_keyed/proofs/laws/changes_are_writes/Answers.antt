use Rattle.lnbd_keyed.proofs.PlaceLaws.{with_pair_insert, with_value_set, without_remove}
use Rattle.lnbd_keyed.proofs.Parts.{with_pair_last}
use Rattle.lnbd_keyed.proofs.laws.changes_are_writes.Goals as goal

pub returns-clause-put : goal.returns-clause-put
returns-clause-put g c = with_pair_insert

pub returns-clause-changed : goal.returns-clause-changed
returns-clause-changed g c = with_value_set

pub returns-clause-removed : goal.returns-clause-removed
returns-clause-removed g c = without_remove

pub returns-clause-last : goal.returns-clause-last
returns-clause-last g c = with_pair_last
