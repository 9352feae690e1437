use Rattle.lnbd_asked.proofs.Staying.{told_stays, exports_stay, names_stay}
use Rattle.lnbd_asked.proofs.laws.told_stays.Goals as goal

pub returns : goal.returns
returns g c = record { size = told_stays; whole = exports_stay; name = names_stay }
