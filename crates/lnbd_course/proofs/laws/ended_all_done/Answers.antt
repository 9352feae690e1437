use Rattle.lnbd_course.proofs.AllDone.{ended_are_all_done}
use Rattle.lnbd_course.proofs.laws.ended_all_done.Goals as goal

pub returns : goal.returns
returns c = ended_are_all_done
