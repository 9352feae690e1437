use Rattle.std.proofs.Common.{ap}
use Rattle.lnbd_script.specs.Steps.{is_open}
use Rattle.lnbd_script.proofs.RoundLemmas.{part_closed}
use Rattle.lnbd_script.proofs.place.Place.take_part.Goals as goal

pub returns-in-Unused-clause-ok : goal.returns-in-Unused-clause-ok
returns-in-Unused-clause-ok g c = part_closed c.args.self.now c.args.first.now _ (ap is_open c.in-Unused.is)

pub returns-in-Over-clause-ok : goal.returns-in-Over-clause-ok
returns-in-Over-clause-ok g c = part_closed c.args.self.now c.args.first.now _ (ap is_open c.in-Over.is)
