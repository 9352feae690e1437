use Rattle.lnbd_copyfile.proofs.WentLemmas.{looks_made, looks_over, makes_change, makes_end, makes_nothing}
use Rattle.lnbd_copyfile.proofs.desk.go_on_once.Goals as goal
use Rattle.lnbd_copyfile.specs.declared.fault.Stop.TheVariants as stop
use Rattle.lnbd_copyfile.specs.OneFile.{BreaksWriting, Write_lacks_memory, Writes}
use Rattle.lnbd_touched.proofs.GrownLemmas.{grew_none}
use Rattle.std.proofs.Common.{refl}

pub returns-in-Nothing-clause-makes : goal.returns-in-Nothing-clause-makes
returns-in-Nothing-clause-makes g c = makes_nothing c.args.board.now.how c.args.file c.args.board.now c.next.new.self c.in-Ok.next _ _ c.in-Nothing.is c.in-Ok.ensures.ok

pub returns-in-Over-clause-makes : goal.returns-in-Over-clause-makes
returns-in-Over-clause-makes g c =
    makes_end c.args.board.now.how c.args.file c.args.board.now c.next.new.self c.in-Over.slice c.in-Over.source c.in-Over.destination c.in-Ok.next _ _ c.in-Over.is c.in-Ok.ensures.ok

pub returns-in-Ok-make_change-clause-makes : goal.returns-in-Ok-make_change-clause-makes
returns-in-Ok-make_change-clause-makes g c =
    makes_change c.args.board.now.how c.args.file c.args.board.now c.next.new.self c.complete.new.board c.in-Asks.slice c.in-Asks.destination c.in-Asks.change c.comes_back.result c.in-Ok.next _ _ _ _
    c.in-Asks.is c.in-Ok.ensures.ok c.in-Ok-make_change.ensures.makes c.comes_back.ensures c.complete.ensures c.in-Ok-make_change.ensures.taken

pub returns-in-Over-clause-looked : goal.returns-in-Over-clause-looked
returns-in-Over-clause-looked g c = looks_over c.args.board.now.how c.args.board.now c.next.new.self c.in-Over.slice c.in-Over.source c.in-Over.destination c.in-Ok.next c.in-Over.is c.in-Ok.ensures.ok

pub returns-in-Nothing-clause-writes : goal.returns-in-Nothing-clause-writes
returns-in-Nothing-clause-writes g c = grew_none _ (Writes c.args.file) tt

pub returns-in-Over-clause-writes : goal.returns-in-Over-clause-writes
returns-in-Over-clause-writes g c = grew_none _ (Writes c.args.file) tt

pub returns-in-Err-clause-breaks : goal.returns-in-Err-clause-breaks
returns-in-Err-clause-breaks g c = grew_none _ (BreaksWriting c.args.file stop.NoMemory) (Write_lacks_memory tt refl)

pub returns-in-Ok-make_change-clause-looked : goal.returns-in-Ok-make_change-clause-looked
returns-in-Ok-make_change-clause-looked g c =
    looks_made c.args.board.now.how c.args.board.now c.next.new.self c.complete.new.board c.in-Asks.slice c.in-Asks.destination c.in-Asks.change c.comes_back.result c.in-Ok.next c.in-Asks.is
    c.in-Ok.ensures.ok c.complete.ensures
