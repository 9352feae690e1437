use Rattle.lnbd_course.proofs.Ending.{finished_carries}
use Rattle.lnbd_course.proofs.laws.finished_carries.Goals as goal

pub returns : goal.returns
returns c = finished_carries
