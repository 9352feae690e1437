use Rattle.lnbd_course.proofs.Spared.{parts_spare_far}
use Rattle.lnbd_course.proofs.far.parts_spare_far.Goals as goal

pub returns : goal.returns
returns c = parts_spare_far
