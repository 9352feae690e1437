use Rattle.lnbd_copyfile.proofs.WentLemmas.{begun_made}
use Rattle.lnbd_copyfile.proofs.desk.begin_slice.Goals as goal
use Rattle.lnbd_copyfile.specs.declared.fault.Stop.TheVariants as stop
use Rattle.lnbd_copyfile.specs.OneFile.{BreaksWriting, Write_lacks_memory, Writes}
use Rattle.lnbd_touched.proofs.GrownLemmas.{grew_none}
use Rattle.std.proofs.Common.{refl}

pub returns-in-Ok-make_change-clause-begun : goal.returns-in-Ok-make_change-clause-begun
returns-in-Ok-make_change-clause-begun g c =
    begun_made c.args.file c.args.slice c.args.source 0 c.args.board.now c.begin.new.self c.complete.new.board c.in-Ok.first c.begun-number.result c.in-Change.change c.comes_back.result _ _ _ _
    c.in-Change.is c.begun-number.ensures c.in-Ok.ensures.ok c.in-Ok.ensures.row c.in-Ok-make_change.ensures.makes c.comes_back.ensures c.complete.ensures c.in-Ok-make_change.ensures.taken

pub returns-in-Read-clause-writes : goal.returns-in-Read-clause-writes
returns-in-Read-clause-writes g c = grew_none _ (Writes c.args.file) tt

pub returns-in-Err-clause-breaks : goal.returns-in-Err-clause-breaks
returns-in-Err-clause-breaks g c = grew_none _ (BreaksWriting c.args.file stop.NoMemory) (Write_lacks_memory tt refl)
