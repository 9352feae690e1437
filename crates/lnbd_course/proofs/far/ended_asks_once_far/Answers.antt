use Rattle.lnbd_course.proofs.FarEnding.{ended_asks_once_far, ended_sums_far, ended_are_all_done_far}
use Rattle.lnbd_course.proofs.far.ended_asks_once_far.Goals as goal

pub returns : goal.returns
returns c = record { once = ended_asks_once_far; sums = ended_sums_far; done = ended_are_all_done_far }
