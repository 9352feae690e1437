use Rattle.lnbd_course.proofs.Closing.{closing_answers_none}
use Rattle.lnbd_copy.proofs.FiledLemmas.{calls_filed}
use Rattle.lnbd_copy.proofs.LinkLemmas.{links_hung_up}
use Rattle.lnbd_copy.proofs.PauseLemmas.{unpaused_shut}
use Rattle.lnbd_copy.proofs.IdleLemmas.{idly_shut}
use Rattle.lnbd_connections.proofs.StepLemmas.{leaves_one}
use Rattle.lnbd_connections.proofs.UseLemmas.{uses_unpaused}
use Rattle.lnbd_connections.proofs.parting.hang_up.Goals as goal

pub returns-clause-leaves : goal.returns-clause-leaves
returns-clause-leaves g c =
    leaves_one _ _ _ _ _ _ c.args.index (c.take-link.result.0, c.take-link.result.1.machine) c.take-link.ensures.value c.take-link.ensures.others (calls_filed _ _ _ c.close-closed.ensures.world)
    (λ history stands. let plays = (c.close-closed.ensures.stands history stands).plays in closing_answers_none history plays.calls _ _ plays.told plays.world) c.shut.ensures.told

pub returns-clause-uses : goal.returns-clause-uses
returns-clause-uses g c first =
    uses_unpaused _ first _ _ _ _ _ _ _ (links_hung_up _ _ _ _ c.args.index (c.take-link.result.0, c.take-link.result.1.machine) c.take-link.ensures.value c.take-link.ensures.others
    c.shut.ensures.told)
    (unpaused_shut _ _ _ c.shut.ensures.told) c.shut.ensures.idles

pub returns-clause-unpaused : goal.returns-clause-unpaused
returns-clause-unpaused g c = unpaused_shut _ _ _ c.shut.ensures.told

pub returns-clause-asks : goal.returns-clause-asks
returns-clause-asks g c = idly_shut _ _ _ c.shut.ensures.told

pub returns-clause-idly : goal.returns-clause-idly
returns-clause-idly g c = idly_shut _ _ _ c.shut.ensures.told
