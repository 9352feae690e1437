use Rattle.lnbd_accepts.proofs.Cuts.{cuts_change_nothing_later, cuts_stay_lawful}
use Rattle.lnbd_accepts.proofs.laws.cuts_change_nothing_later.Goals as goal

pub returns-clause-same : goal.returns-clause-same
returns-clause-same g c = cuts_change_nothing_later

pub returns-clause-lawful : goal.returns-clause-lawful
returns-clause-lawful g c = cuts_stay_lawful
