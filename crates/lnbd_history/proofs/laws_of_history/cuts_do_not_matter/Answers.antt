use Rattle.lnbd_history.proofs.Cuts.{cuts_do_not_matter}
use Rattle.lnbd_history.proofs.laws_of_history.cuts_do_not_matter.Goals as goal

pub returns : goal.returns
returns g c = cuts_do_not_matter
