use Rattle.lnbd_extents.proofs.SameRanges.{same_ranges}
use Rattle.lnbd_extents.proofs.laws.same_positions_same_ranges.Goals as goal

pub returns : goal.returns
returns c = same_ranges 0 0
