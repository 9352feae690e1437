use Rattle.lnbd_course.proofs.FarEnding.{size_was_told_far, known_was_told_far, to_file_ends, from_file_ends}
use Rattle.lnbd_course.proofs.far.ended_far.Goals as goal

pub returns : goal.returns
returns c = record { size = size_was_told_far; zero = known_was_told_far; to_file = to_file_ends; from_file = from_file_ends }
