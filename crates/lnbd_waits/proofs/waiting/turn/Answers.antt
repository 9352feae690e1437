use Rattle.lnbd_waits.proofs.TurnLemmas.{turn_one, turn_short, if_ok, on_err}
use Rattle.lnbd_waits.proofs.waiting.turn.Goals as goal

pub returns-clause-ok : goal.returns-clause-ok
returns-clause-ok g c = if_ok c.turn.result (λ told goes. turn_one g.K.Caller.steps _ _ _ _ _ _ told _ _ goes) c.turn.ensures.ok

pub returns-clause-short : goal.returns-clause-short
returns-clause-short g c = on_err c.turn.result (λ goes. turn_short g.K.Caller.steps _ _ _ _ _ _ _ _ goes) c.turn.ensures.short
