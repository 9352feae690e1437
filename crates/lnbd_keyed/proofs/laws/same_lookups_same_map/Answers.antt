use Rattle.lnbd_keyed.proofs.SameMap.{same_map}
use Rattle.lnbd_keyed.proofs.laws.same_lookups_same_map.Goals as goal

pub returns : goal.returns
returns g c = same_map
