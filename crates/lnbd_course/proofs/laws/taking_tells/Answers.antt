use Rattle.lnbd_course.proofs.Telling.{taking_tells}
use Rattle.lnbd_course.proofs.laws.taking_tells.Goals as goal

pub returns : goal.returns
returns c = taking_tells
