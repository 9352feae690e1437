use Rattle.lnbd_standing.proofs.Standing.{closing_right}
use Rattle.lnbd_standing.proofs.laws_of_standing.closing_is_right.Goals as goal

pub returns : goal.returns
returns g c = closing_right
