use Rattle.lnbd_lively.proofs.Answering.{go_is_known}
use Rattle.lnbd_lively.proofs.laws.go_is_known.Goals as goal

pub returns : goal.returns
returns c = go_is_known
