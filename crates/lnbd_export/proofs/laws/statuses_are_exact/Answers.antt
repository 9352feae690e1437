use Rattle.lnbd_export.proofs.Exact.{statuses_exact}
use Rattle.lnbd_export.proofs.laws.statuses_are_exact.Goals as goal

pub returns : goal.returns
returns c = statuses_exact
