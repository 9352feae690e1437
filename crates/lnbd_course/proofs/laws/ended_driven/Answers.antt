use Rattle.lnbd_course.proofs.Driving.{ended_are_driven}
use Rattle.lnbd_course.proofs.laws.ended_driven.Goals as goal

pub returns : goal.returns
returns c = ended_are_driven
