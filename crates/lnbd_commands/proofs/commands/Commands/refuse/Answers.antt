use Rattle.lnbd_history.specs.Commands.{flight_of}
use Rattle.std.proofs.Common.{map}
use Rattle.lnbd_history.specs.Entries.{call_of, free_acts}
use Rattle.lnbd_commands.specs.Commands.{Commands}
use Rattle.lnbd_commands.proofs.IssueLemmas.{refused_now, sound_refused, takes_refused}
use Rattle.lnbd_commands.proofs.commands.Commands.refuse.Goals as goal

pub free-requires : goal.free-requires
free-requires g c =
    let m : Commands g.row.K.Denot = record { issued = c.self.inside.issued; rows = c.self.inside.table.rows; done = c.self.inside.table.done; log = c.self.inside.desk.log; freed = c.self.inside.freed; room = c.self.inside.desk.room } in
    rw (c.in-Ok.ensures.flight, c.in-Ok.ensures.ok) (refused_now m c.args.first c.args.done c.self.invariant).live

pub invariant_of-self-2 : goal.invariant_of-self-2
invariant_of-self-2 g c =
    let m : Commands g.row.K.Denot = record { issued = c.self.inside.issued; rows = c.self.inside.table.rows; done = c.self.inside.table.done; log = c.self.inside.desk.log; freed = c.self.inside.freed; room = c.self.inside.desk.room } in
    rw (c.free.ensures.desk, c.count.ensures, c.in-Ok.ensures.flight, c.in-Ok.ensures.ok) (sound_refused m c.args.first c.args.done c.self.invariant)

pub returns-clause-ok : goal.returns-clause-ok
returns-clause-ok g c =
    let m : Commands g.row.K.Denot = record { issued = c.self.inside.issued; rows = c.self.inside.table.rows; done = c.self.inside.table.done; log = c.self.inside.desk.log; freed = c.self.inside.freed; room = c.self.inside.desk.room } in
    let called : g.K.Caller.steps c.args.world.now (map call_of (free_acts (flight_of m.log.admitted c.args.first c.args.done))) c.free.new.world = rw c.in-Ok.ensures.flight at c.free.ensures.world in
    rw (← c.self.view_is, c.free.ensures.desk, c.count.ensures, c.in-Ok.ensures.flight, c.in-Ok.ensures.ok)
    (takes_refused g.K.Caller.steps m c.args.first c.args.done c.args.world.now c.free.new.world c.self.invariant called)
