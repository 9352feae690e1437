use Rattle.std.proofs.Common.{sym}
use Rattle.lnbd_commands.specs.Commands.{Commands}
use Rattle.lnbd_commands.proofs.FaultyLemmas.{asked_held, asked_known}
use Rattle.lnbd_commands.proofs.commands.Commands.is_faulty.Goals as goal

pub is_faulty-requires-clause-held : goal.is_faulty-requires-clause-held
is_faulty-requires-clause-held g c =
    let m : Commands g.row.K.Denot = record { issued = c.self.inside.issued; rows = c.self.inside.table.rows; done = c.self.inside.table.done; log = c.self.inside.desk.log; freed = c.self.inside.freed; room = c.self.inside.desk.room } in
    let asked = rw (← c.self.view_is) at c.requires in
    asked_held c.args.cookie m c.args.offset c.args.size asked c.self.invariant c.in-Some.row.now (sym c.in-Some.ensures)

pub is_faulty-requires-clause-asked : goal.is_faulty-requires-clause-asked
is_faulty-requires-clause-asked g c =
    let m : Commands g.row.K.Denot = record { issued = c.self.inside.issued; rows = c.self.inside.table.rows; done = c.self.inside.table.done; log = c.self.inside.desk.log; freed = c.self.inside.freed; room = c.self.inside.desk.room } in
    let asked = rw (← c.self.view_is) at c.requires in
    asked_known c.args.cookie m c.args.offset c.args.size asked c.in-Some.row.now (sym c.in-Some.ensures)
