use Rattle.lnbd_copyfile.specs.Loading.{Was_read}
use Rattle.lnbd_copyfile.proofs.LoadLemmas.{asked_first, loads}
use Rattle.lnbd_copyfile.proofs.loading.load_slice.Goals as goal
use Rattle.lnbd_copyfile.specs.declared.fault.Stop.TheVariants as stop
use Rattle.lnbd_copyfile.specs.OneFile.{BreaksReading, Read_lacks_memory}
use Rattle.lnbd_touched.proofs.GrownLemmas.{grew_none}
use Rattle.std.proofs.Common.{refl}

pub returns-in-Ok-read_into-clause-begins : goal.returns-in-Ok-read_into-clause-begins
returns-in-Ok-read_into-clause-begins g c = Was_read
    (loads c.args.file c.args.slice c.args.source c.args.destination c.args.board.now c.begin.new.self c.complete.new.board c.in-Ok.first c.begun-number.result c.in-Read.offset c.in-Read.buf
    c.in-Ok-read_into.bytes _ _ _ _ c.in-Read.is c.begun-number.ensures c.in-Ok.ensures.ok c.in-Ok.ensures.row c.in-Ok-read_into.ensures.same c.complete.ensures c.in-Ok-read_into.ensures.tells
    c.in-Ok-read_into.ensures.given) refl

pub returns-in-Ok-ask_change-clause-begins : goal.returns-in-Ok-ask_change-clause-begins
returns-in-Ok-ask_change-clause-begins g c = asked_first c.args.file c.args.slice c.args.source c.args.destination c.args.board.now c.begin.new.self c.ask_change.new.board c.args.handles.now
    c.ask_change.new.handles c.in-Ok.first c.in-Change.change c.begun-number.result _ _ c.in-Change.is c.begun-number.ensures c.in-Ok.ensures.ok c.in-Ok.ensures.row
    c.in-Ok-ask_change.ensures.board c.in-Ok-ask_change.ensures.asked

pub returns-in-Err-clause-breaks : goal.returns-in-Err-clause-breaks
returns-in-Err-clause-breaks g c = grew_none _ (BreaksReading c.args.file c.args.size stop.NoMemory) (Read_lacks_memory tt refl)

pub returns-in-Err-ask_change-clause-breaks : goal.returns-in-Err-ask_change-clause-breaks
returns-in-Err-ask_change-clause-breaks g c = grew_none _ (BreaksReading c.args.file c.args.size stop.NoMemory) (Read_lacks_memory tt refl)
