use Rattle.lnbd_course.proofs.Holding.{nothing_is_on_course, opens_on_course, settling_keeps}
use Rattle.lnbd_course.proofs.laws.beginning_keeps.Goals as goal

pub returns : goal.returns
returns c = record { nothing = nothing_is_on_course; opens = opens_on_course; settling = settling_keeps }
