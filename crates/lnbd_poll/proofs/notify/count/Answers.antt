use Rattle.lnbd_machine.specs.Now.{out_now}
use Rattle.lnbd_poll.proofs.NoticeLemmas.{sent, sent_as}
use Rattle.lnbd_poll.proofs.notify.count.Goals as goal

pub returns-in-Bytes-clause-sends : goal.returns-in-Bytes-clause-sends
returns-in-Bytes-clause-sends g c =
    let count = rw c.in-Bytes.is at c.requires.count in
    sent_as c.args.handle.now.machine c.wrote.new.self.machine c.args.took _ (out_now c.args.handle.now.machine.known) _ c.in-Bytes.is (sent c.args.handle.now.machine c.wrote.new.self.machine c.in-Bytes.n count.0 count.1 c.wrote.ensures.stands)
