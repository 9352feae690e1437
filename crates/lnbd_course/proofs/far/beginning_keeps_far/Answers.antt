use Rattle.lnbd_course.proofs.FarKeeping.{nothing_is_far, opens_far, settling_keeps_far, agreeing_settles_far}
use Rattle.lnbd_course.proofs.far.beginning_keeps_far.Goals as goal

pub returns : goal.returns
returns c = record { nothing = nothing_is_far; opens = opens_far; settling = settling_keeps_far; agreeing = agreeing_settles_far }
