use Rattle.lnbd_copyfile.proofs.SendingLemmas.{none_sends, one_sends}
use Rattle.lnbd_copyfile.proofs.sending.Bindings.begin_next.Goals as goal

pub returns-in-None-clause-begins : goal.returns-in-None-clause-begins
returns-in-None-clause-begins g c =
    none_sends c.args.source.file c.next.result c.args.windows.now c.next.new.self c.args.board.now c.args.handles.now _ _ c.in-None.is c.next.ensures.slices c.next.ensures.others

pub returns-in-Ok-clause-begins : goal.returns-in-Ok-clause-begins
returns-in-Ok-clause-begins g c =
    one_sends c.args.source.file c.in-Some.slice c.next.result c.args.windows.now c.next.new.self c.args.board.now c.begin_one.new.board c.args.handles.now c.begin_one.new.handles _ _ _ _
    c.in-Some.is c.next.ensures.slices c.next.ensures.others c.in-Ok.ensures.begins
