use Rattle.lnbd_course.proofs.Answering.{answers_stay, nothing_is_read_behind, ranges_were_answered}
use Rattle.lnbd_course.proofs.laws.ended_answers.Goals as goal

pub returns : goal.returns
returns c = record { ranges = ranges_were_answered; behind = nothing_is_read_behind; stay = answers_stay }
