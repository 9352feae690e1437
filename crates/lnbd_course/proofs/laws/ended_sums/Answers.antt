use Rattle.lnbd_course.proofs.Summing.{ended_sums}
use Rattle.lnbd_course.proofs.laws.ended_sums.Goals as goal

pub returns : goal.returns
returns c = ended_sums
