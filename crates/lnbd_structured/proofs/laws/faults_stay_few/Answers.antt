use Rattle.lnbd_structured.proofs.LawLemmas.{few}
use Rattle.lnbd_structured.proofs.laws.faults_stay_few.Goals as goal

pub returns : goal.returns
returns c = few
