use Rattle.lnbd_course.proofs.Telling.{source_asks_tell, destination_asks_tell, extents_ask_tell}
use Rattle.lnbd_course.proofs.laws.asking_tells.Goals as goal

pub returns : goal.returns
returns c = record { source = source_asks_tell; destination = destination_asks_tell; extents = extents_ask_tell }
