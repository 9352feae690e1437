use Rattle.lnbd_course.proofs.Taken.{buffers_are_no_matter, taken_are_spelled}
use Rattle.lnbd_course.proofs.laws.taken_are_spelled.Goals as goal

pub returns : goal.returns
returns g c = record { buffers = buffers_are_no_matter; spelled = taken_are_spelled }
