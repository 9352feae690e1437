use Rattle.lnbd_extents.proofs.RangeLaws.{holds-with_positions}
use Rattle.lnbd_extents.proofs.laws.added_is_held.Goals as goal

pub returns : goal.returns
returns c = holds-with_positions
