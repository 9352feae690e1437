use Rattle.lnbd_course.proofs.Spared.{parts_spare}
use Rattle.lnbd_course.proofs.laws.parts_spare.Goals as goal

pub returns : goal.returns
returns c = parts_spare
