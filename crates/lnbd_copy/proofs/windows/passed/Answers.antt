use Rattle.std.proofs.Common.{inr}
use Rattle.lnbd_copy.proofs.ReachLemmas.{whole_blocks}
use Rattle.lnbd_copy.proofs.windows.passed.Goals as goal

pub returns-clause-blocks : goal.returns-clause-blocks
returns-clause-blocks c = inr (whole_blocks c.args.reached c.args.grain)
