use Rattle.std.proofs.Common.{◌∙◌, ap, sym}
use Rattle.lnbd_poll.proofs.NoticeLemmas.{read_after, read_idle, read_there, read_unread}
use Rattle.lnbd_poll.proofs.notify.notify_read.Goals as goal

pub returns-then-not-is_reading-clause-reads : goal.returns-then-not-is_reading-clause-reads
returns-then-not-is_reading-clause-reads g c = read_idle g.K.Caller.steps c.args.link _ _ _ _ (c.is_reading.ensures.no c.if-not-is_reading.true)

pub returns-then-not-is_empty-clause-reads : goal.returns-then-not-is_empty-clause-reads
returns-then-not-is_empty-clause-reads g c = read_unread g.K.Caller.steps c.args.link _ _ _ _ _ c.hand_over.result (c.is_reading.ensures.yes c.if-not-is_reading.false) _ _ (sym c.is_empty.ensures ∙ c.if-not-is_empty.true) c.hand_over.ensures.arrives

pub returns-in-Some-clause-reads : goal.returns-in-Some-clause-reads
returns-in-Some-clause-reads g c =
    let told = rw c.in-Some.is at c.read_placed.ensures.told in
    read_there g.K.Caller.steps c.args.link c.args.handle.now.machine c.hear_placed.new.handle.machine c.read_placed.new.handle.machine _ _ c.hear_placed.result (c.is_reading.ensures.yes c.if-not-is_reading.false) _ _ _ _ c.read_placed.ensures.same (sym c.is_empty.ensures ∙ c.if-not-is_empty.false) told c.hear_placed.ensures.hears

pub returns-in-None-clause-reads : goal.returns-in-None-clause-reads
returns-in-None-clause-reads g c =
    let none = rw c.in-None.is at c.read_placed.ensures.none in
    read_after g.K.Caller.steps c.args.link c.args.handle.now.machine c.hear.new.handle.machine _ _ _ c.hear.result (c.is_reading.ensures.yes c.if-not-is_reading.false) c.read_placed.new.handle.machine _ _ _ _ _ c.read_placed.ensures.same none.0 (ap g.W.Wires.told none.1) (sym c.is_empty.ensures ∙ c.if-not-is_empty.false) c.read-got.ensures.told c.hear.ensures.hears
