use Rattle.lnbd_course.proofs.Telling.{nothing_is_told, opening_tells, settling_tells}
use Rattle.lnbd_course.proofs.laws.beginning_tells.Goals as goal

pub returns : goal.returns
returns c = record { nothing = nothing_is_told; opens = opening_tells; settling = settling_tells }
