use Rattle.lnbd_course.proofs.Telling.{hearing_tells, fewer_tell, windows_tell}
use Rattle.lnbd_course.proofs.laws.hearing_tells.Goals as goal

pub returns : goal.returns
returns c = record { hearing = hearing_tells; fewer = fewer_tell; windows = windows_tell }
