use Rattle.lnbd_connections.proofs.UseLemmas.{rests_not, rests_so}
use Rattle.lnbd_connections.proofs.UnreadyLemmas.{awaits_none, awaits_paused, unready_none, unready_paused}
use Rattle.std.proofs.lemmas.Result.{on_ok_weaker}
use Rattle.lnbd_connections.proofs.dialing.rest_after.Goals as goal

pub returns-in_ok-check_loud-in-Still-clause-rests : goal.returns-in_ok-check_loud-in-Still-clause-rests
returns-in_ok-check_loud-in-Still-clause-rests g c = rests_so _ _ _ _ _ _ _ _ c.in-Still.is c.rest.ensures.rests

pub returns-in-Moved-clause-rests : goal.returns-in-Moved-clause-rests
returns-in-Moved-clause-rests g c = rests_not _ _ _ _ _

pub returns-in_ok-check_loud-in-Still-clause-unready : goal.returns-in_ok-check_loud-in-Still-clause-unready
returns-in_ok-check_loud-in-Still-clause-unready g c now = unready_paused now _ _ _ _ c.in_ok-check_loud-in-Still.ensures c.rest.result c.rest.ensures.same c.rest.ensures.pauses c.rest.ensures.still

pub returns-in-Moved-clause-unready : goal.returns-in-Moved-clause-unready
returns-in-Moved-clause-unready g c now = unready_none now _ _

pub returns-in_ok-check_loud-in-Still-clause-awaits : goal.returns-in_ok-check_loud-in-Still-clause-awaits
returns-in_ok-check_loud-in-Still-clause-awaits g c =
    on_ok_weaker c.rest.result (λ adds now. awaits_paused now _ _ _ _ c.in_ok-check_loud-in-Still.ensures c.rest.ensures.same adds) c.rest.ensures.pauses

pub returns-in-Moved-clause-awaits : goal.returns-in-Moved-clause-awaits
returns-in-Moved-clause-awaits g c now = awaits_none now _ _

pub returns-in_err-check_loud-in-Still-clause-rests : goal.returns-in_err-check_loud-in-Still-clause-rests
returns-in_err-check_loud-in-Still-clause-rests g c = rests_not _ _ _ _ _

pub returns-in_err-check_loud-in-Still-clause-unready : goal.returns-in_err-check_loud-in-Still-clause-unready
returns-in_err-check_loud-in-Still-clause-unready g c now = unready_none now _ _
