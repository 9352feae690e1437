use Rattle.std.proofs.Common.{Option, sym, subst, refl}
use Rattle.lnbd_history.specs.Commands.{Flight}
use Rattle.lnbd_machine.specs.Machine.{Row}
use Rattle.lnbd_commands.specs.Commands.{Commands}
use Rattle.lnbd_commands.specs.Lands.{IsLiveRow, LosableAt}
use Rattle.lnbd_commands.specs.Rows.{flight_of_row}
use Rattle.lnbd_commands.proofs.EndLemmas.{loss_sound, loss_takes}
use Rattle.lnbd_commands.proofs.MarkLemmas.{unmarked}
use Rattle.lnbd_commands.proofs.ReplyLemmas.{flying_row, losable}
use Rattle.lnbd_commands.proofs.SoundLemmas.{live_row}
use Rattle.lnbd_commands.proofs.commands.Commands.lose.Goals as goal

pub end_by_loss-requires-clause-losable : goal.end_by_loss-requires-clause-losable
end_by_loss-requires-clause-losable g c =
    let m : Commands g.row.K.Denot = record { issued = c.self.inside.issued; rows = c.self.inside.table.rows; done = c.self.inside.table.done; log = c.self.inside.desk.log; freed = c.self.inside.freed; room = c.self.inside.desk.room } in
    let f = flying_row c.args.cookie m (rw (← c.self.view_is) at c.requires) in
    subst (λ (o : Option (Row g.row.K.Denot)). LosableAt o) (sym f.at) (losable c.args.cookie m c.self.invariant f)

pub end_by_loss-requires-clause-live : goal.end_by_loss-requires-clause-live
end_by_loss-requires-clause-live g c =
    let m : Commands g.row.K.Denot = record { issued = c.self.inside.issued; rows = c.self.inside.table.rows; done = c.self.inside.table.done; log = c.self.inside.desk.log; freed = c.self.inside.freed; room = c.self.inside.desk.room } in
    let f = flying_row c.args.cookie m (rw (← c.self.view_is) at c.requires) in
    subst (λ (o : Option (Row g.row.K.Denot)). IsLiveRow (flight_of_row o) m.log) (sym f.at)
    (subst (λ (o : Option (Flight g.row.K.Denot)). IsLiveRow o m.log) (sym f.flies) (live_row m c.args.cookie f.row f.flight m.log c.self.invariant f.at f.flies refl))

pub end_by_loss-requires-clause-undone : goal.end_by_loss-requires-clause-undone
end_by_loss-requires-clause-undone g c =
    let m : Commands g.row.K.Denot = record { issued = c.self.inside.issued; rows = c.self.inside.table.rows; done = c.self.inside.table.done; log = c.self.inside.desk.log; freed = c.self.inside.freed; room = c.self.inside.desk.room } in
    let f = flying_row c.args.cookie m (rw (← c.self.view_is) at c.requires) in
    unmarked c.args.cookie f.row f.flight m.done m.rows c.self.invariant.rows f.at f.flies

pub invariant_of-self : goal.invariant_of-self
invariant_of-self g c =
    let m : Commands g.row.K.Denot = record { issued = c.self.inside.issued; rows = c.self.inside.table.rows; done = c.self.inside.table.done; log = c.self.inside.desk.log; freed = c.self.inside.freed; room = c.self.inside.desk.room } in
    let f = flying_row c.args.cookie m (rw (← c.self.view_is) at c.requires) in
    loss_sound g.K.Caller.steps c.args.cookie m c.self.invariant f g.met.K.Caller.append c.end_by_loss.result c.end_by_loss.new.table c.end_by_loss.new.desk.log c.args.world.now c.end_by_loss.new.world c.end_by_loss.new.desk.room
    g.met.K.Caller.empty (rw f.at at c.end_by_loss.ensures)

pub returns : goal.returns
returns g c =
    let m : Commands g.row.K.Denot = record { issued = c.self.inside.issued; rows = c.self.inside.table.rows; done = c.self.inside.table.done; log = c.self.inside.desk.log; freed = c.self.inside.freed; room = c.self.inside.desk.room } in
    let f = flying_row c.args.cookie m (rw (← c.self.view_is) at c.requires) in
    rw (← c.self.view_is)
    (loss_takes g.K.Caller.steps c.args.cookie m c.self.invariant f g.met.K.Caller.append c.end_by_loss.result c.end_by_loss.new.table c.end_by_loss.new.desk.log c.args.world.now c.end_by_loss.new.world c.end_by_loss.new.desk.room
    g.met.K.Caller.empty (rw f.at at c.end_by_loss.ensures))
