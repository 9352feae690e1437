use Rattle.lnbd_course.proofs.Placing.{taking_keeps_between}
use Rattle.lnbd_course.proofs.laws.taking_keeps_between.Goals as goal

pub returns : goal.returns
returns c = taking_keeps_between
