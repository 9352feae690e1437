use Rattle.lnbd_course.proofs.Holding.{turns_keep}
use Rattle.lnbd_course.proofs.laws.turns_keep.Goals as goal

pub returns : goal.returns
returns c = turns_keep
