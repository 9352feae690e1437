use Rattle.lnbd_info.proofs.MapLemmas.{totals_once}
use Rattle.lnbd_info.proofs.laws.totals_are_one.Goals as goal

pub returns : goal.returns
returns c = totals_once
