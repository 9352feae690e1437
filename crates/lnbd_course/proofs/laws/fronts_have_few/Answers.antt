use Rattle.lnbd_course.proofs.Fronts.{fronts_have_few, fronts_have_none}
use Rattle.lnbd_course.proofs.Unasked.{nothing_before}
use Rattle.lnbd_course.proofs.laws.fronts_have_few.Goals as goal

pub returns-clause-handles : goal.returns-clause-handles
returns-clause-handles c = fronts_have_few

pub returns-clause-others : goal.returns-clause-others
returns-clause-others c = fronts_have_none

pub returns-clause-nothing : goal.returns-clause-nothing
returns-clause-nothing c = nothing_before
