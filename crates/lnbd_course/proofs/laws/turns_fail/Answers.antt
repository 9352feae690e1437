use Rattle.lnbd_course.proofs.Failing.{turns_fail}
use Rattle.lnbd_course.proofs.laws.turns_fail.Goals as goal

pub returns : goal.returns
returns c = turns_fail
