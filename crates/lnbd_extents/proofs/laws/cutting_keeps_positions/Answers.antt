use Rattle.lnbd_extents.proofs.ListLaws.{flags_at_clipped, span_clipped}
use Rattle.lnbd_extents.proofs.laws.cutting_keeps_positions.Goals as goal

pub returns-clause-flags : goal.returns-clause-flags
returns-clause-flags c = flags_at_clipped

pub returns-clause-length : goal.returns-clause-length
returns-clause-length c = span_clipped
