use Rattle.lnbd_outcome.proofs.Standing.{facts_stand}
use Rattle.lnbd_outcome.proofs.laws.facts_stand.Goals as goal

pub returns : goal.returns
returns c = facts_stand
