use Rattle.lnbd_lively.proofs.Answering.{open_answer}
use Rattle.lnbd_lively.proofs.laws.open_answer.Goals as goal

pub returns : goal.returns
returns g c = open_answer
