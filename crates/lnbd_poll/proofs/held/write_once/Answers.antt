use Rattle.lnbd_poll.proofs.TurnLemmas.{wrote_once}
use Rattle.lnbd_poll.proofs.held.write_once.Goals as goal

pub returns-clause-writes : goal.returns-clause-writes
returns-clause-writes g c = wrote_once g.K.Caller.steps _ _ _ _ _ _ _ c.args.link _ _ c.notify_write-noticed.result c.notify_write-noticed.ensures.writes c.tell.ensures.told c.notify_write-noticed.ensures.blames
