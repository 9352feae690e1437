use Rattle.lnbd_child.specs.Closing.{WritesBack, WritesNotBack}
use Rattle.lnbd_child.specs.Writing.{HasWritten, NotWritten}
use Rattle.lnbd_child.proofs.GrownLemmas.{done_as, failed_as, grew_as, grew_none}
use Rattle.lnbd_child.proofs.LoadLemmas.{file_back, file_leaves, file_unwritten, locked_back, locked_leaves, made_back, made_leaves, not_made}
use Rattle.lnbd_child.proofs.closing.write_back.Goals as goal

pub returns-in-Made-clause-back : goal.returns-in-Made-clause-back
returns-in-Made-clause-back g c = grew_none _ (WritesBack c.args.asked.now.content c.args.asked.now.read_only c.args.bytes.now) (made_back _ _ _ c.in-Made.is c.args.asked.now.read_only c.args.bytes.now)

pub returns-in-Made-clause-leaves : goal.returns-in-Made-clause-leaves
returns-in-Made-clause-leaves g c = made_leaves _ _ _ c.in-Made.is c.args.asked.now.read_only c.args.bytes.now (g.S.Store.shelf c.args.store.now)

pub returns-else-asked-clause-back : goal.returns-else-asked-clause-back
returns-else-asked-clause-back g c =
    done_as c.write_whole.result _ _ (λ wrote. grew_as _ _ (HasWritten _ c.args.bytes.now) (WritesBack c.args.asked.now.content c.args.asked.now.read_only c.args.bytes.now)
    (λ calls w. file_back c.args.asked.now.content _ c.in-File.is c.args.asked.now.read_only c.if-asked.false c.args.bytes.now calls w) wrote) c.write_whole.ensures.wrote

pub returns-else-asked-clause-leaves : goal.returns-else-asked-clause-leaves
returns-else-asked-clause-leaves g c =
    done_as c.write_whole.result _ _ (λ w. file_leaves c.args.asked.now.content _ c.in-File.is c.args.asked.now.read_only c.if-asked.false c.args.bytes.now _ _ w) c.write_whole.ensures.written

pub returns-else-asked-clause-unwritten : goal.returns-else-asked-clause-unwritten
returns-else-asked-clause-unwritten g c =
    failed_as c.write_whole.result _ _ (λ un. grew_as _ _ (NotWritten _ c.args.bytes.now) (WritesNotBack c.args.asked.now.content c.args.asked.now.read_only c.args.bytes.now)
    (λ calls w. file_unwritten c.args.asked.now.content _ c.in-File.is c.args.asked.now.read_only c.if-asked.false c.args.bytes.now calls w) un) c.write_whole.ensures.unwritten

pub returns-else-asked-clause-untouched : goal.returns-else-asked-clause-untouched
returns-else-asked-clause-untouched g c made = absurd (not_made c.args.asked.now.content _ c.in-File.is made)

pub returns-then-asked-clause-back : goal.returns-then-asked-clause-back
returns-then-asked-clause-back g c =
    grew_none _ (WritesBack c.args.asked.now.content c.args.asked.now.read_only c.args.bytes.now) (locked_back c.args.asked.now.content _ c.in-File.is c.args.asked.now.read_only c.if-asked.true c.args.bytes.now)

pub returns-then-asked-clause-leaves : goal.returns-then-asked-clause-leaves
returns-then-asked-clause-leaves g c = locked_leaves c.args.asked.now.content _ c.in-File.is c.args.asked.now.read_only c.if-asked.true c.args.bytes.now (g.S.Store.shelf c.args.store.now)
