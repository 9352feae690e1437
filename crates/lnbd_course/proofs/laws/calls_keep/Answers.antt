use Rattle.lnbd_course.proofs.Holding.{calls_keep}
use Rattle.lnbd_course.proofs.laws.calls_keep.Goals as goal

pub returns : goal.returns
returns c = calls_keep
