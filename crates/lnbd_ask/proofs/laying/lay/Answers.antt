use Rattle.lnbd_ask.proofs.LayLemmas.{span_counted}
use Rattle.lnbd_ask.proofs.laying.lay.Goals as goal

pub returns-clause-passed : goal.returns-clause-passed
returns-clause-passed c = span_counted c.args.block c.args.length c.reached-reach.result c.args.told.now c.reached-reach.ensures c.if-reach-block.false
