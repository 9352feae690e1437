use Rattle.lnbd_keyed.proofs.LookupLaws.{value_at_first}
use Rattle.lnbd_keyed.proofs.OrderLaws.{first_key_below}
use Rattle.lnbd_keyed.proofs.laws.first_key_is_the_least.Goals as goal

pub returns-clause-held : goal.returns-clause-held
returns-clause-held g c = value_at_first

pub returns-clause-least : goal.returns-clause-least
returns-clause-least g c = first_key_below
