use Rattle.lnbd_standing.proofs.Standing.{stands_right}
use Rattle.lnbd_standing.proofs.laws_of_standing.standing_is_right.Goals as goal

pub returns : goal.returns
returns g c = stands_right
