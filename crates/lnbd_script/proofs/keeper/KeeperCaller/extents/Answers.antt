use Rattle.lnbd_script.proofs.KeptLemmas.{heeds_extents}
use Rattle.lnbd_script.proofs.keeper.KeeperCaller.extents.Goals as goal

pub returns : goal.returns
returns c = heeds_extents c.args.self.now c.args.context.now c.args.offset c.args.entries.now c.args.error c.answer-heard.result c.fails_first.result c.args.world.now _ _ c.answer-heard.ensures c.fails_first.ensures c.hear_extents.ensures c.mark.ensures
