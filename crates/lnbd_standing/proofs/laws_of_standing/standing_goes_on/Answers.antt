use Rattle.lnbd_standing.proofs.Standing.{goes_on}
use Rattle.lnbd_standing.proofs.laws_of_standing.standing_goes_on.Goals as goal

pub returns : goal.returns
returns g c = goes_on
