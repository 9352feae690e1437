use Rattle.lnbd_standing.proofs.Standing.{created_right}
use Rattle.lnbd_standing.proofs.laws_of_standing.created_stands.Goals as goal

pub returns : goal.returns
returns g c = created_right
