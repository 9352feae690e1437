use Rattle.lnbd_course.proofs.Asking.{others_keep}
use Rattle.lnbd_course.proofs.laws.others_keep.Goals as goal

pub returns : goal.returns
returns c = others_keep
