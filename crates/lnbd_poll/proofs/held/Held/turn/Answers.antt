use Rattle.std.proofs.Common.{◌∙◌, sym}
use Rattle.lnbd_poll.proofs.TurnLemmas.{took_enough, took_short}
use Rattle.lnbd_poll.proofs.held.Held.turn.Goals as goal

pub returns-then-is_short-clause-short : goal.returns-then-is_short-clause-short
returns-then-is_short-clause-short g c = took_short g.K.Caller.steps _ _ _ _ _ _ _ _ _ _ _ _ _ _ _ c.write_all-wrote.result c.notify_read-noticed.result c.write_all-wrote.ensures.writes c.notify_read-noticed.ensures.reads c.notify_read-noticed.ensures.blames c.write_all-wrote.ensures.faults c.notify_read-noticed.ensures.faults (sym c.is_short.ensures ∙ c.if-is_short.true)

pub returns-clause-ok : goal.returns-clause-ok
returns-clause-ok g c = took_enough g.K.Caller.steps _ _ _ _ _ _ _ _ _ _ _ _ _ _ _ c.write_all-wrote.result c.notify_read-noticed.result c.write_all-wrote.ensures.writes c.notify_read-noticed.ensures.reads c.notify_read-noticed.ensures.blames c.write_all-wrote.ensures.faults c.notify_read-noticed.ensures.faults
    c.turn.result c.and.result (sym c.is_short.ensures ∙ c.if-is_short.false) c.and.ensures c.turn.ensures
