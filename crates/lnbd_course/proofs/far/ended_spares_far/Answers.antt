use Rattle.lnbd_course.proofs.FarEnding.{ended_spares_far, ended_are_dense_far}
use Rattle.lnbd_course.proofs.far.ended_spares_far.Goals as goal

pub returns : goal.returns
returns c = record { reads = ended_spares_far; writes = ended_are_dense_far }
