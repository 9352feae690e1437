use Rattle.std.proofs.Common.{refl}
use Rattle.lnbd_touched.proofs.GrownLemmas.{grew_none}
use Rattle.lnbd_copyfile.specs.declared.fault.Stop.TheVariants as stop
use Rattle.lnbd_copyfile.specs.OneFile.{BreaksReading, Read_lacks_memory}
use Rattle.lnbd_copyfile.proofs.loading.read_into.Goals as goal

pub returns-then-not-is_inside-clause-breaks : goal.returns-then-not-is_inside-clause-breaks
returns-then-not-is_inside-clause-breaks g c = grew_none _ (BreaksReading c.args.file c.args.size stop.NoMemory) (Read_lacks_memory tt refl)
