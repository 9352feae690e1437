use Rattle.lnbd_course.proofs.FarKeeping.{hearing_keeps_far, fewer_keep_far}
use Rattle.lnbd_course.proofs.far.hearing_keeps_far.Goals as goal

pub returns : goal.returns
returns c = record { hearing = hearing_keeps_far; fewer = fewer_keep_far }
