use Rattle.lnbd_keyed.proofs.OrderLaws.{IsRising_pair, IsRising_with, IsRising_without, IsRising_append}
use Rattle.lnbd_keyed.proofs.laws.keys_still_rise.Goals as goal

pub returns-clause-put : goal.returns-clause-put
returns-clause-put g c = IsRising_pair

pub returns-clause-changed : goal.returns-clause-changed
returns-clause-changed g c = IsRising_with

pub returns-clause-removed : goal.returns-clause-removed
returns-clause-removed g c = IsRising_without

pub returns-clause-last : goal.returns-clause-last
returns-clause-last g c = IsRising_append
