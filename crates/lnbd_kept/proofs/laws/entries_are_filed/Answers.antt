use Rattle.lnbd_kept.proofs.FiledLemmas.{entries_are_filed}
use Rattle.lnbd_kept.proofs.laws.entries_are_filed.Goals as goal

pub returns : goal.returns
returns g c = entries_are_filed
