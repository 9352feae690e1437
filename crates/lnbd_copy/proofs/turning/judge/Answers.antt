use Rattle.lnbd_copy.proofs.DecidingLemmas.{reveals_answer, reveals_content, reveals_dead, reveals_unfit, reveals_free, steady_link, steady_still}
use Rattle.lnbd_copy.proofs.GroundLemmas.{handed_on, if_err_leads}
use Rattle.lnbd_copy.proofs.turning.judge.Goals as goal

pub returns-in_err-check_faults-clause-reveals : goal.returns-in_err-check_faults-clause-reveals
returns-in_err-check_faults-clause-reveals g c = handed_on _ c.from_residual-in_err-check_faults.result _ c.from_residual-in_err-check_faults.ensures.1 (reveals_free _ _ _ _ _ c.in_err-check_faults.ensures.free)

pub returns-in_err-check_faults-clause-steady : goal.returns-in_err-check_faults-clause-steady
returns-in_err-check_faults-clause-steady g c = handed_on _ c.from_residual-in_err-check_faults.result _ c.from_residual-in_err-check_faults.ensures.1 (steady_link _ _ _ c.in_err-check_faults.ensures.link)

pub returns-in_err-check_content-clause-reveals : goal.returns-in_err-check_content-clause-reveals
returns-in_err-check_content-clause-reveals g c = handed_on _ c.from_residual-in_err-check_content.result _ c.from_residual-in_err-check_content.ensures.1 (reveals_content _ _ _ _ _ c.in_err-check_content.ensures.answers c.in_err-check_content.ensures.other)

pub returns-in_err-check_content-clause-steady : goal.returns-in_err-check_content-clause-steady
returns-in_err-check_content-clause-steady g c = handed_on _ c.from_residual-in_err-check_content.result _ c.from_residual-in_err-check_content.ensures.1 (steady_still _ _ _ c.in_ok-check_faults.ensures.well)

pub returns-in_err-check_state-clause-reveals : goal.returns-in_err-check_state-clause-reveals
returns-in_err-check_state-clause-reveals g c = handed_on _ c.from_residual-in_err-check_state.result _ c.from_residual-in_err-check_state.ensures.1 (reveals_dead _ _ _ _ _ c.in_err-check_state.ensures.dead c.in_err-check_state.ensures.other c.in_ok-check_content.ensures.whole)

pub returns-in_err-check_state-clause-steady : goal.returns-in_err-check_state-clause-steady
returns-in_err-check_state-clause-steady g c = handed_on _ c.from_residual-in_err-check_state.result _ c.from_residual-in_err-check_state.ensures.1 (steady_still _ _ _ c.in_ok-check_faults.ensures.well)

pub returns-in_err-check_told-clause-reveals : goal.returns-in_err-check_told-clause-reveals
returns-in_err-check_told-clause-reveals g c = handed_on _ c.from_residual-in_err-check_told.result _ c.from_residual-in_err-check_told.ensures.1 (reveals_unfit _ _ _ _ _ c.in_err-check_told.ensures.found c.in_err-check_told.ensures.other c.in_ok-check_content.ensures.whole)

pub returns-in_err-check_told-clause-steady : goal.returns-in_err-check_told-clause-steady
returns-in_err-check_told-clause-steady g c = handed_on _ c.from_residual-in_err-check_told.result _ c.from_residual-in_err-check_told.ensures.1 (steady_still _ _ _ c.in_ok-check_faults.ensures.well)

pub returns-clause-reveals : goal.returns-clause-reveals
returns-clause-reveals g c = if_err_leads c.check_answers.result (λ why answers. reveals_answer _ _ _ _ why answers c.in_ok-check_state.ensures.alive) c.check_answers.ensures.answers

pub returns-clause-steady : goal.returns-clause-steady
returns-clause-steady g c = if_err_leads c.check_answers.result (λ why free. steady_still _ _ why c.in_ok-check_faults.ensures.well) c.check_answers.ensures.free
