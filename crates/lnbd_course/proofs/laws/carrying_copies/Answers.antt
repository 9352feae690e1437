use Rattle.lnbd_course.proofs.Ending.{carrying_copies}
use Rattle.lnbd_course.proofs.laws.carrying_copies.Goals as goal

pub returns : goal.returns
returns c = carrying_copies
