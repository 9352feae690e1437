use Rattle.lnbd_course.proofs.Telling.{calls_tell}
use Rattle.lnbd_course.proofs.laws.calls_tell.Goals as goal

pub returns : goal.returns
returns c = calls_tell
