use Rattle.lnbd_lively.proofs.Unnamed.{driven_answer}
use Rattle.lnbd_lively.proofs.laws.driven_answer.Goals as goal

pub returns : goal.returns
returns g c = driven_answer
