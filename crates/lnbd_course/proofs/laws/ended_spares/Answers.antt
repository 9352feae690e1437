use Rattle.lnbd_course.proofs.Dense.{ended_are_dense}
use Rattle.lnbd_course.proofs.Sparing.{ended_spares}
use Rattle.lnbd_course.proofs.laws.ended_spares.Goals as goal

pub returns : goal.returns
returns c = record { reads = ended_spares; writes = ended_are_dense }
