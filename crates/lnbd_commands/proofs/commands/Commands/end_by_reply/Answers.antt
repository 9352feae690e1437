use Rattle.std.proofs.Common.{Option, sym, subst}
use Rattle.lnbd_machine.specs.Machine.{Row}
use Rattle.lnbd_commands.specs.Commands.{Commands}
use Rattle.lnbd_commands.specs.Contents.{bytes_in}
use Rattle.lnbd_commands.specs.Lands.{AnswerableAt}
use Rattle.lnbd_commands.proofs.EndLemmas.{reply_sound, reply_takes}
use Rattle.lnbd_commands.proofs.MarkLemmas.{unmarked}
use Rattle.lnbd_commands.proofs.ReplyLemmas.{replied_row, answerable}
use Rattle.lnbd_commands.proofs.commands.Commands.end_by_reply.Goals as goal

pub end_by_reply-requires-clause-answerable : goal.end_by_reply-requires-clause-answerable
end_by_reply-requires-clause-answerable g c =
    let m : Commands g.row.K.Denot = record { issued = c.self.inside.issued; rows = c.self.inside.table.rows; done = c.self.inside.table.done; log = c.self.inside.desk.log; freed = c.self.inside.freed; room = c.self.inside.desk.room } in
    let asked = rw (← c.self.view_is) at c.requires in
    let f = replied_row c.args.cookie m c.args.error (bytes_in c.args.content) asked in
    subst (λ (o : Option (Row g.row.K.Denot)). AnswerableAt o c.args.error (bytes_in c.args.content) m.log) (sym f.at) (answerable c.args.cookie m c.args.error (bytes_in c.args.content) c.self.invariant asked f)

pub end_by_reply-requires-clause-undone : goal.end_by_reply-requires-clause-undone
end_by_reply-requires-clause-undone g c =
    let m : Commands g.row.K.Denot = record { issued = c.self.inside.issued; rows = c.self.inside.table.rows; done = c.self.inside.table.done; log = c.self.inside.desk.log; freed = c.self.inside.freed; room = c.self.inside.desk.room } in
    let f = replied_row c.args.cookie m c.args.error (bytes_in c.args.content) (rw (← c.self.view_is) at c.requires) in
    unmarked c.args.cookie f.row f.flight m.done m.rows c.self.invariant.rows f.at f.flies

pub invariant_of-self : goal.invariant_of-self
invariant_of-self g c =
    let m : Commands g.row.K.Denot = record { issued = c.self.inside.issued; rows = c.self.inside.table.rows; done = c.self.inside.table.done; log = c.self.inside.desk.log; freed = c.self.inside.freed; room = c.self.inside.desk.room } in
    let f = replied_row c.args.cookie m c.args.error (bytes_in c.args.content) (rw (← c.self.view_is) at c.requires) in
    reply_sound g.K.Caller.steps c.args.cookie m c.self.invariant f g.met.K.Caller.append c.in-Ok.freed c.end_by_reply.new.table c.end_by_reply.new.desk.log c.args.world.now c.end_by_reply.new.world c.end_by_reply.new.desk.room
    c.args.error (bytes_in c.args.content) (rw f.at at c.in-Ok.ensures.ends)

pub returns-in-Ok-clause-ok : goal.returns-in-Ok-clause-ok
returns-in-Ok-clause-ok g c =
    let m : Commands g.row.K.Denot = record { issued = c.self.inside.issued; rows = c.self.inside.table.rows; done = c.self.inside.table.done; log = c.self.inside.desk.log; freed = c.self.inside.freed; room = c.self.inside.desk.room } in
    let f = replied_row c.args.cookie m c.args.error (bytes_in c.args.content) (rw (← c.self.view_is) at c.requires) in
    rw (← c.self.view_is, f.known)
    (reply_takes g.K.Caller.steps c.args.cookie m c.self.invariant f g.met.K.Caller.append c.in-Ok.freed c.end_by_reply.new.table c.end_by_reply.new.desk.log c.args.world.now c.end_by_reply.new.world c.end_by_reply.new.desk.room
    c.args.error (bytes_in c.args.content) (rw f.at at c.in-Ok.ensures.ends))
