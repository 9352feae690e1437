use Rattle.std.proofs.Common.{◌∙◌, sym}
use Rattle.lnbd_poll.proofs.TurnLemmas.{told_kept, told_lost}
use Rattle.lnbd_script.specs.Kept.{Heeds}
use Rattle.lnbd_script.proofs.session.tell.Goals as goal

pub returns-then-not-is_lost-clause-told : goal.returns-then-not-is_lost-clause-told
returns-then-not-is_lost-clause-told c = told_kept Heeds _ _ _ (sym c.is_lost.ensures ∙ c.if-not-is_lost.true)

pub returns-clause-told : goal.returns-clause-told
returns-clause-told c = told_lost Heeds _ _ _ _ _ (sym c.is_lost.ensures ∙ c.if-not-is_lost.false) c.link_failed.ensures.stands
