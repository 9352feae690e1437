use Rattle.lnbd_course.proofs.FarEnding.{ended_flushes_once_far, ended_unflushed_far, ended_flushed_far}
use Rattle.lnbd_course.proofs.far.ended_flushes_far.Goals as goal

pub returns : goal.returns
returns c = record { once = ended_flushes_once_far; none = ended_unflushed_far; done = ended_flushed_far }
