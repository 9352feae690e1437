use Rattle.lnbd_connections.proofs.BoundWay.{paused_binds}
use Rattle.lnbd_connections.proofs.FewLemmas.{few_idly}
use Rattle.lnbd_connections.proofs.StepLemmas.{paused_goes}
use Rattle.lnbd_connections.proofs.UseLemmas.{rests_paused}
use Rattle.std.proofs.lemmas.Result.{on_ok_weaker}
use Rattle.lnbd_connections.proofs.turning.rest.Goals as goal

pub returns-clause-goes : goal.returns-clause-goes
returns-clause-goes g c = on_ok_weaker c.wait.result (λ adds now. paused_goes _ _ _ now _ _ c.wait.ensures.same adds) c.wait.ensures.pauses

pub returns-clause-rests : goal.returns-clause-rests
returns-clause-rests g c = rests_paused c.wait.result _ _ _ _ _ _ _ c.wait.ensures.links c.wait.ensures.patient c.wait.ensures.wanted c.wait.ensures.pauses c.wait.ensures.still

pub returns-clause-binds : goal.returns-clause-binds
returns-clause-binds g c = on_ok_weaker c.wait.result (λ adds now. paused_binds _ _ _ now _ _ c.wait.ensures.same adds) c.wait.ensures.pauses

pub returns-clause-few : goal.returns-clause-few
returns-clause-few g c most start = few_idly most start _ _ c.wait.ensures.idly
