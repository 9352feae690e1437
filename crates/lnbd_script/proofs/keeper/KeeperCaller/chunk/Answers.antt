use Rattle.lnbd_script.proofs.KeptLemmas.{heeds_chunk}
use Rattle.lnbd_script.proofs.keeper.KeeperCaller.chunk.Goals as goal

pub returns : goal.returns
returns c = heeds_chunk c.args.self.now c.args.bytes.now c.args.offset c.args.status c.args.error c.answer-heard.result c.fails_first.result c.args.world.now _ _ c.answer-heard.ensures c.fails_first.ensures c.hear_chunk.ensures c.mark.ensures
