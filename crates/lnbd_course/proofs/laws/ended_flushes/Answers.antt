use Rattle.lnbd_course.proofs.Flushing.{ended_flushed, ended_flushes_once, ended_unflushed}
use Rattle.lnbd_course.proofs.laws.ended_flushes.Goals as goal

pub returns : goal.returns
returns c = record { once = ended_flushes_once; none = ended_unflushed; done = ended_flushed }
