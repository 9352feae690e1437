use Rattle.lnbd_keyed.proofs.LookupLaws.{keys_held}
use Rattle.lnbd_keyed.proofs.laws.keys_are_those_held.Goals as goal

pub returns : goal.returns
returns g c = keys_held
