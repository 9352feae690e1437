use Rattle.lnbd_course.proofs.Telling.{turns_tell}
use Rattle.lnbd_course.proofs.laws.turns_tell.Goals as goal

pub returns : goal.returns
returns c = turns_tell
