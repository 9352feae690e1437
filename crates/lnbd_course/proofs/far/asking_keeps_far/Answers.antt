use Rattle.lnbd_course.proofs.FarKeeping.{asking_keeps_far, extents_keep_far, others_keep_far, taking_keeps_far}
use Rattle.lnbd_course.proofs.far.asking_keeps_far.Goals as goal

pub returns : goal.returns
returns c = record { asks = asking_keeps_far; extents = extents_keep_far; others = others_keep_far; taking = taking_keeps_far }
