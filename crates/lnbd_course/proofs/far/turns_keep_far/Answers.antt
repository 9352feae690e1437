use Rattle.lnbd_course.proofs.FarKeeping.{turns_keep_far, calls_keep_far}
use Rattle.lnbd_course.proofs.far.turns_keep_far.Goals as goal

pub returns : goal.returns
returns c = record { turns = turns_keep_far; calls = calls_keep_far }
