use Rattle.lnbd_course.proofs.Unfailed.{unfailed_shows}
use Rattle.lnbd_course.proofs.laws.unfailed_shows.Goals as goal

pub returns : goal.returns
returns c = unfailed_shows
