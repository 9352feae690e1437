use Rattle.lnbd_script.proofs.OriginLemmas.{origins}
use Rattle.lnbd_script.proofs.laws.origins_are_told.Goals as goal

pub returns : goal.returns
returns c = origins
