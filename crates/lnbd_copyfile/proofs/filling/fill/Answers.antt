use Rattle.std.proofs.Common.{refl}
use Rattle.lnbd_touched.proofs.GrownLemmas.{grew_none}
use Rattle.lnbd_copyfile.specs.declared.fault.Stop.TheVariants as stop
use Rattle.lnbd_copyfile.specs.Calls.{Lacks_room, NotFilled}
use Rattle.lnbd_copyfile.proofs.filling.fill.Goals as goal

pub returns-in-Err-clause-breaks : goal.returns-in-Err-clause-breaks
returns-in-Err-clause-breaks g c = grew_none _ (NotFilled c.args.way.cell c.args.way.size c.args.way.from c.args.path.now c.args.way.flush stop.NoMemory) (Lacks_room refl refl)
