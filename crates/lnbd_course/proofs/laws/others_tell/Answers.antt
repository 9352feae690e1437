use Rattle.lnbd_course.proofs.Telling.{others_tell}
use Rattle.lnbd_course.proofs.laws.others_tell.Goals as goal

pub returns : goal.returns
returns c = others_tell
