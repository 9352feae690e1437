use Rattle.lnbd_course.proofs.Reached.{told_are_known}
use Rattle.lnbd_course.proofs.laws.told_are_known.Goals as goal

pub returns : goal.returns
returns c = told_are_known
