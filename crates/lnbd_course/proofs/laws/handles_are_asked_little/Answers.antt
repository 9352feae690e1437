use Rattle.lnbd_course.proofs.Little.{handles_are_asked_little}
use Rattle.lnbd_course.proofs.laws.handles_are_asked_little.Goals as goal

pub returns : goal.returns
returns c = handles_are_asked_little
