use Rattle.lnbd_standing.proofs.Standing.{stands_calls}
use Rattle.lnbd_standing.proofs.laws_of_standing.standing_calls.Goals as goal

pub returns : goal.returns
returns g c = stands_calls
