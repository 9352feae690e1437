use Rattle.lnbd_reel.proofs.ReelLemmas.{down_same}
use Rattle.lnbd_reel.proofs.laying.down.Goals as goal

pub returns-clause-same : goal.returns-clause-same
returns-clause-same c = down_same c.args.at c.args.block c.requires
