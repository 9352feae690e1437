use Rattle.std.proofs.Common.{[], ap}
use Rattle.lnbd_poll.specs.Seen.{gives_bytes}
use Rattle.lnbd_poll.proofs.NoticeLemmas.{hears_as, hears_bytes, hears_end, hears_fault, hears_nothing}
use Rattle.lnbd_poll.proofs.notify.hear.Goals as goal

pub returns-in-Bytes-clause-hears : goal.returns-in-Bytes-clause-hears
returns-in-Bytes-clause-hears g c =
    let count = rw c.in-Bytes.is at c.requires.count in
    hears_as g.K.Caller.steps _ _ _ _ _ c.args.got _ c.args.inbox.now c.hand_over.result c.in-Bytes.is (hears_bytes g.K.Caller.steps _ _ _ _ _ c.in-Bytes.field-0 c.args.inbox.now c.hand_over.result count.0 count.1 (c.hand_over.ensures.arrives []))

pub returns-in-NotReady-clause-hears : goal.returns-in-NotReady-clause-hears
returns-in-NotReady-clause-hears g c = hears_as g.K.Caller.steps _ _ _ _ _ c.args.got _ c.args.inbox.now _ c.in-NotReady.is (hears_nothing g.K.Caller.steps c.args.handle.now.machine c.args.inbox.now c.args.world.now (c.requires.none (ap gives_bytes c.in-NotReady.is)))

pub returns-in-End-clause-hears : goal.returns-in-End-clause-hears
returns-in-End-clause-hears g c = hears_as g.K.Caller.steps _ _ _ _ _ c.args.got _ c.args.inbox.now _ c.in-End.is (hears_end g.K.Caller.steps _ _ c.args.inbox.now _ _ (c.requires.none (ap gives_bytes c.in-End.is)) c.ended.ensures.stands)

pub returns-in-Failed-clause-hears : goal.returns-in-Failed-clause-hears
returns-in-Failed-clause-hears g c = hears_as g.K.Caller.steps _ _ _ _ _ c.args.got _ c.args.inbox.now _ c.in-Failed.is (hears_fault g.K.Caller.steps _ _ c.args.inbox.now _ _ (c.requires.none (ap gives_bytes c.in-Failed.is)) c.link_failed.ensures.stands)
