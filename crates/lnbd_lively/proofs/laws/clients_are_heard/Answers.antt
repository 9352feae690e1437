use Rattle.lnbd_lively.proofs.Options.{options_leave_open}
use Rattle.lnbd_lively.proofs.Straight.{fronts_are_heard}
use Rattle.lnbd_lively.proofs.laws.clients_are_heard.Goals as goal

pub returns-clause-fronts : goal.returns-clause-fronts
returns-clause-fronts c = fronts_are_heard

pub returns-clause-options : goal.returns-clause-options
returns-clause-options c = options_leave_open
