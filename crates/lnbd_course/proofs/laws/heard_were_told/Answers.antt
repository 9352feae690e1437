use Rattle.lnbd_course.proofs.Passed.{heard_were_first, heard_were_told, none_are_awaited}
use Rattle.lnbd_course.proofs.laws.heard_were_told.Goals as goal

pub returns : goal.returns
returns c = record { told = heard_were_told; first = heard_were_first; none = none_are_awaited }
