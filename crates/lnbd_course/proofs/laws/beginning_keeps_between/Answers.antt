use Rattle.lnbd_course.proofs.Opening.{opens_between}
use Rattle.lnbd_course.proofs.Placing.{nothing_is_between, settling_keeps_between, agreeing_settles}
use Rattle.lnbd_course.proofs.laws.beginning_keeps_between.Goals as goal

pub returns : goal.returns
returns c = record { nothing = nothing_is_between; opens = opens_between; settling = settling_keeps_between; agreeing = agreeing_settles }
