use Rattle.std.proofs.Common.{refl}
use Rattle.lnbd_child.specs.declared.reading.Unread.TheVariants as unread
use Rattle.lnbd_child.specs.Reading.{Lacks, Stops}
use Rattle.lnbd_child.proofs.GrownLemmas.{grew_none}
use Rattle.lnbd_child.proofs.reading.read_told_size.Goals as goal

pub returns-in-Err-clause-stops : goal.returns-in-Err-clause-stops
returns-in-Err-clause-stops g c = grew_none _ (Stops c.args.file c.args.size unread.NoMemory) (Lacks refl refl)
