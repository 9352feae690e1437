use Rattle.lnbd_structured.proofs.BreachLemmas.{parts_show}
use Rattle.lnbd_structured.proofs.PartLemmas.{parts_tell}
use Rattle.lnbd_structured.proofs.laws.parts_tell_the_chunk.Goals as goal

pub returns-clause-told : goal.returns-clause-told
returns-clause-told c = parts_tell

pub returns-clause-breach : goal.returns-clause-breach
returns-clause-breach c = parts_show
