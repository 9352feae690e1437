use Rattle.lnbd_lively.proofs.Opening.{served_answer}
use Rattle.lnbd_lively.proofs.laws.served_answer.Goals as goal

pub returns : goal.returns
returns g c = served_answer
