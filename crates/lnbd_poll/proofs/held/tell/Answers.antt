use Rattle.std.proofs.Common.{◌∙◌, sym}
use Rattle.lnbd_poll.proofs.TurnLemmas.{told_kept, told_lost}
use Rattle.lnbd_poll.proofs.held.tell.Goals as goal

pub returns-then-not-is_lost-clause-told : goal.returns-then-not-is_lost-clause-told
returns-then-not-is_lost-clause-told g c = told_kept g.K.Caller.steps _ _ _ (sym c.is_lost.ensures ∙ c.if-not-is_lost.true)

pub returns-clause-told : goal.returns-clause-told
returns-clause-told g c = told_lost g.K.Caller.steps _ _ _ _ _ (sym c.is_lost.ensures ∙ c.if-not-is_lost.false) c.link_failed.ensures.stands
