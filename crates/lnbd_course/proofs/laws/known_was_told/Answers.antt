use Rattle.lnbd_course.proofs.Telling.{known_was_told, sides_are_of_source}
use Rattle.lnbd_course.proofs.laws.known_was_told.Goals as goal

pub returns : goal.returns
returns c = record { told = known_was_told; sides = sides_are_of_source }
