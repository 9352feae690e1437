use Rattle.lnbd_extents.proofs.ListLaws.{same_joined}
use Rattle.lnbd_extents.proofs.laws.same_flags_same_extents.Goals as goal

pub returns : goal.returns
returns c = same_joined
