use Rattle.lnbd_course.proofs.Closing.{closing_answers_none, closing_fails_none}
use Rattle.lnbd_copy.proofs.FiledLemmas.{calls_filed}
use Rattle.lnbd_copy.proofs.PartLemmas.{leaves_one}
use Rattle.lnbd_copy.proofs.LinkLemmas.{links_hung_up}
use Rattle.lnbd_copy.proofs.parting.hang_up.Goals as goal

pub returns-clause-leaves : goal.returns-clause-leaves
returns-clause-leaves g c parted =
    leaves_one _ _ _ _ _ _ c.args.index (c.take-link.result.0, c.take-link.result.1.machine) c.take-link.ensures.value c.take-link.ensures.others (calls_filed _ _ _ c.close-closed.ensures.world)
    (λ history stands. let plays = (c.close-closed.ensures.stands history stands).plays in closing_answers_none history plays.calls _ _ plays.told plays.world)
    (λ history stands. let plays = (c.close-closed.ensures.stands history stands).plays in closing_fails_none history plays.calls _ _ plays.told plays.world) c.shut.ensures.told parted

pub returns-clause-links : goal.returns-clause-links
returns-clause-links g c = links_hung_up _ _ _ _ c.args.index (c.take-link.result.0, c.take-link.result.1.machine) c.take-link.ensures.value c.take-link.ensures.others c.shut.ensures.told
