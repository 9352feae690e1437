use Rattle.lnbd_lively.proofs.Opening.{fair_sessions_go_on}
use Rattle.lnbd_lively.proofs.laws.fair_sessions_go_on.Goals as goal

pub returns : goal.returns
returns c = fair_sessions_go_on
