use Rattle.lnbd_course.proofs.Holding.{taking_keeps}
use Rattle.lnbd_course.proofs.laws.taking_keeps.Goals as goal

pub returns : goal.returns
returns c = taking_keeps
