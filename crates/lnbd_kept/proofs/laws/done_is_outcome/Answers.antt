use Rattle.lnbd_kept.proofs.FiledLemmas.{done_is_outcome}
use Rattle.lnbd_kept.proofs.laws.done_is_outcome.Goals as goal

pub returns : goal.returns
returns g c = done_is_outcome
