use Rattle.lnbd_course.proofs.Spread.{handles_have_few, links_have_few, others_have_none, over_has_none}
use Rattle.lnbd_course.proofs.laws.handles_have_few.Goals as goal

pub returns : goal.returns
returns c = record { handles = handles_have_few; links = links_have_few; others = others_have_none; over = over_has_none }
