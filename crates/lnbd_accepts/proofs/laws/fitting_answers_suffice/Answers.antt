use Rattle.lnbd_accepts.proofs.Given.{fitting_answers_do_the_same, fitting_answers_suffice}
use Rattle.lnbd_accepts.proofs.laws.fitting_answers_suffice.Goals as goal

pub returns-clause-same : goal.returns-clause-same
returns-clause-same g c = fitting_answers_do_the_same

pub returns-clause-suffice : goal.returns-clause-suffice
returns-clause-suffice g c = fitting_answers_suffice
