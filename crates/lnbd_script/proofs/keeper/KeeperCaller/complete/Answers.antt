use Rattle.lnbd_script.proofs.KeptLemmas.{heeds_completion}
use Rattle.lnbd_script.proofs.keeper.KeeperCaller.complete.Goals as goal

pub returns : goal.returns
returns c =
    heeds_completion c.args.self.now c.args.error c.args.buf c.give.result c.args.world.now _ _ _ c.give.ensures.verdict c.hear_completion.ensures c.settle.ensures
    c.give.ensures.notes
