use Rattle.lnbd_course.proofs.Placed.{links_are_of_sides, ended_carries}
use Rattle.lnbd_course.proofs.laws.ended_carries.Goals as goal

pub returns : goal.returns
returns c = record { links = links_are_of_sides; carries = ended_carries }
