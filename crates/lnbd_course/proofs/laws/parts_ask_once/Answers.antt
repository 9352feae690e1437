use Rattle.lnbd_course.proofs.Parts.{parts_ask_once}
use Rattle.lnbd_course.proofs.laws.parts_ask_once.Goals as goal

pub returns : goal.returns
returns c = parts_ask_once
