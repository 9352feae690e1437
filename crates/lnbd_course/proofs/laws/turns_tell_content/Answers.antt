use Rattle.lnbd_course.proofs.Unfailed.{turns_tell_content}
use Rattle.lnbd_course.proofs.laws.turns_tell_content.Goals as goal

pub returns : goal.returns
returns c = turns_tell_content
