use Rattle.lnbd_structured.proofs.LawLemmas.{stands}
use Rattle.lnbd_structured.proofs.laws.stands_for_its_chunks.Goals as goal

pub returns : goal.returns
returns c = stands
