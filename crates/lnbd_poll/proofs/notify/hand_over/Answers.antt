use Rattle.lnbd_poll.proofs.NoticeLemmas.{arrived_all, arrived_some}
use Rattle.lnbd_poll.proofs.notify.hand_over.Goals as goal

pub returns-in-Ok-clause-arrives : goal.returns-in-Ok-clause-arrives
returns-in-Ok-clause-arrives g c unread = arrived_all g.K.Caller.steps unread _ _ _ _ c.len-unread.result _ _ _ c.bytes.ensures c.len-unread.ensures c.take.ensures c.in-Ok.ensures.stands

pub returns-in-Err-clause-arrives : goal.returns-in-Err-clause-arrives
returns-in-Err-clause-arrives g c unread = arrived_some g.K.Caller.steps unread _ _ _ _ c.in-Err.short.taken _ _ _ c.bytes.ensures c.in-Err.ensures.within c.take-in-Err.ensures c.in-Err.ensures.short_stands
