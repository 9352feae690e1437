use Rattle.lnbd_commands.specs.Commands.{Commands}
use Rattle.lnbd_commands.specs.Contents.{told_of}
use Rattle.lnbd_commands.proofs.ChunkLemmas.{chunk_row, may_come, tellable}
use Rattle.lnbd_commands.proofs.EndLemmas.{chunk_sound, chunk_takes}
use Rattle.lnbd_commands.proofs.MarkLemmas.{unmarked}
use Rattle.lnbd_commands.proofs.commands.Commands.take_chunk.Goals as goal

pub take_chunk-requires-clause-tellable : goal.take_chunk-requires-clause-tellable
take_chunk-requires-clause-tellable g c =
    let m : Commands g.row.K.Denot = record { issued = c.self.inside.issued; rows = c.self.inside.table.rows; done = c.self.inside.table.done; log = c.self.inside.desk.log; freed = c.self.inside.freed; room = c.self.inside.desk.room } in
    let content = told_of c.args.brought in
    let may = rw (← c.self.view_is) at c.requires in
    tellable c.args.cookie m content c.args.last may c.self.invariant (chunk_row c.args.cookie m content c.args.last may)

pub take_chunk-requires-clause-undone : goal.take_chunk-requires-clause-undone
take_chunk-requires-clause-undone g c =
    let m : Commands g.row.K.Denot = record { issued = c.self.inside.issued; rows = c.self.inside.table.rows; done = c.self.inside.table.done; log = c.self.inside.desk.log; freed = c.self.inside.freed; room = c.self.inside.desk.room } in
    let f = chunk_row c.args.cookie m (told_of c.args.brought) c.args.last (rw (← c.self.view_is) at c.requires) in
    unmarked c.args.cookie f.row f.flight m.done m.rows c.self.invariant.rows f.at f.flies

pub invariant_of-self : goal.invariant_of-self
invariant_of-self g c =
    let m : Commands g.row.K.Denot = record { issued = c.self.inside.issued; rows = c.self.inside.table.rows; done = c.self.inside.table.done; log = c.self.inside.desk.log; freed = c.self.inside.freed; room = c.self.inside.desk.room } in
    let content = told_of c.args.brought in
    let may = rw (← c.self.view_is) at c.requires in
    let f = chunk_row c.args.cookie m content c.args.last may in
    chunk_sound g.K.Caller.steps c.args.cookie m c.self.invariant f g.met.K.Caller.append c.in-Ok.freed c.take_chunk.new.table c.take_chunk.new.desk.log c.args.world.now c.take_chunk.new.world c.take_chunk.new.desk.room
    c.args.contexts.now content c.args.last (may_come c.args.cookie m content c.args.last may f) (rw f.at at c.in-Ok.ensures.told) (rw f.at at c.in-Ok.ensures.ends)

pub returns-in-Ok-clause-ok : goal.returns-in-Ok-clause-ok
returns-in-Ok-clause-ok g c =
    let m : Commands g.row.K.Denot = record { issued = c.self.inside.issued; rows = c.self.inside.table.rows; done = c.self.inside.table.done; log = c.self.inside.desk.log; freed = c.self.inside.freed; room = c.self.inside.desk.room } in
    let content = told_of c.args.brought in
    let f = chunk_row c.args.cookie m content c.args.last (rw (← c.self.view_is) at c.requires) in
    rw (← c.self.view_is)
    (chunk_takes g.K.Caller.steps c.args.cookie m c.self.invariant f g.met.K.Caller.append c.in-Ok.freed c.take_chunk.new.table c.take_chunk.new.desk.log c.args.world.now c.take_chunk.new.world c.take_chunk.new.desk.room
    c.args.contexts.now content c.args.last (rw f.at at c.in-Ok.ensures.told) (rw f.at at c.in-Ok.ensures.ends))
