use Rattle.lnbd_kept.proofs.KeptLemmas.{all_kept_are_outcomes}
use Rattle.lnbd_kept.proofs.laws.kept_are_outcomes.Goals as goal

pub returns : goal.returns
returns g c = all_kept_are_outcomes
