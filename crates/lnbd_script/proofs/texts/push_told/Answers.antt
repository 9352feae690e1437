use Rattle.lnbd_script.proofs.TextLemmas.{held_told}
use Rattle.lnbd_script.proofs.texts.push_told.Goals as goal

pub returns : goal.returns
returns c = held_told c.push_answer.result _ _ _ _ _ c.in-Open.is c.push_answer.ensures
