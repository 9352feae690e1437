use Rattle.lnbd_course.proofs.Placing.{turns_keep_between, calls_keep_between}
use Rattle.lnbd_course.proofs.laws.turns_keep_between.Goals as goal

pub returns : goal.returns
returns c = record { turns = turns_keep_between; calls = calls_keep_between }
