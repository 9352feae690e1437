use Rattle.lnbd_course.proofs.Asking.{source_asks_keep, destination_asks_keep}
use Rattle.lnbd_course.proofs.laws.asking_keeps.Goals as goal

pub returns : goal.returns
returns c = record { source = source_asks_keep; destination = destination_asks_keep }
