use Rattle.lnbd_connections.proofs.BoundWay.{turned_binds_ok}
use Rattle.lnbd_connections.proofs.FewLemmas.{turned_few}
use Rattle.lnbd_connections.proofs.StepLemmas.{turned_ok}
use Rattle.lnbd_connections.proofs.UseLemmas.{turned_still, turned_uses, uses_none}
use Rattle.lnbd_connections.proofs.AskLemmas.{asks_none, turn_asks_none}
use Rattle.lnbd_connections.proofs.turning.take_turn.Goals as goal
use Rattle.lnbd_copy.proofs.PauseLemmas.{unpaused_none}
use Rattle.lnbd_connections.proofs.UnreadyLemmas.{awaits_turned_ok, turned_quietly}

pub returns-clause-goes : goal.returns-clause-goes
returns-clause-goes g c = turned_ok _ _ _ _ c.turn.result _ _ _ _ c.turn.ensures.ok

pub returns-clause-uses : goal.returns-clause-uses
returns-clause-uses g c stand = turned_uses c.turn.result _ _ _ _ _ _ _ _ _ _ _ _ c.turn.ensures.ok c.turn.ensures.cut c.turn.ensures.counts.idles stand

pub returns-clause-vain : goal.returns-clause-vain
returns-clause-vain g c = turned_still c.turn.result _ _ _ _ _ _ _ _ c.turn.ensures.ok

pub returns-in_err-check_calm-clause-uses : goal.returns-in_err-check_calm-clause-uses
returns-in_err-check_calm-clause-uses g c stand = uses_none _ _ _ _ _

pub returns-clause-unpaused : goal.returns-clause-unpaused
returns-clause-unpaused g c stand = turned_quietly c.turn.result _ _ _ _ _ _ _ _ c.turn.ensures.ok c.turn.ensures.cut stand

pub returns-in_err-check_calm-clause-unpaused : goal.returns-in_err-check_calm-clause-unpaused
returns-in_err-check_calm-clause-unpaused g c stand = unpaused_none _

pub returns-clause-asks : goal.returns-clause-asks
returns-clause-asks g c = turn_asks_none _ _ _ _ c.turn.result _ _ _ _ c.turn.ensures.ok c.turn.ensures.cut c.in_ok-check_calm.ensures.well

pub returns-in_err-check_calm-clause-asks : goal.returns-in_err-check_calm-clause-asks
returns-in_err-check_calm-clause-asks g c = asks_none _ _ _

pub returns-clause-binds : goal.returns-clause-binds
returns-clause-binds g c = turned_binds_ok _ _ _ _ c.turn.result _ _ _ _ c.turn.ensures.ok

pub returns-clause-few : goal.returns-clause-few
returns-clause-few g c = turned_few _ _ _ _ c.turn.result _ _ _ _ c.in_ok-check_calm.ensures.well c.turn.ensures.ok c.turn.ensures.cut

pub returns-clause-awaits : goal.returns-clause-awaits
returns-clause-awaits g c = awaits_turned_ok _ _ _ _ c.turn.result _ _ _ _ c.turn.ensures.ok
