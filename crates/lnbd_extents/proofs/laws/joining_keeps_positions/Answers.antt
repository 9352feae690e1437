use Rattle.lnbd_extents.proofs.ListLaws.{flags_with_extent, span_with_extent}
use Rattle.lnbd_extents.proofs.laws.joining_keeps_positions.Goals as goal

pub returns-clause-flags : goal.returns-clause-flags
returns-clause-flags c = flags_with_extent

pub returns-clause-length : goal.returns-clause-length
returns-clause-length c = span_with_extent
