use Rattle.std.proofs.Common.{arith}
use Rattle.lnbd_poll.proofs.InboxLemmas.{without_front}
use Rattle.lnbd_poll.proofs.inbox.Inbox.take.Goals as goal

pub returns : goal.returns
returns c = rw (← c.self.view_is) (without_front c.args.n c.self.inside.from c.self.inside.to c.self.inside.buffer.items c.self.invariant.1 (omega (arith, c.self.invariant.0, c.self.invariant.2)) (rw (← c.self.view_is) at c.requires))
