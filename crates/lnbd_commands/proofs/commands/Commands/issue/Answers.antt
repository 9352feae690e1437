use Rattle.std.proofs.Common.{◌≡◌, ◌+◌, false, sym, ◌∙◌, ap, refl, subst}
use Rattle.lnbd_inflight.specs.Done.{is_done}
use Rattle.lnbd_history.specs.Commands.{request_of}
use Rattle.lnbd_machine.specs.Machine.{Row, new_row}
use Rattle.lnbd_commands.specs.Asks.{command_of}
use Rattle.lnbd_commands.specs.Commands.{Commands, issuing}
use Rattle.lnbd_commands.specs.Sound.{IsSound}
use Rattle.lnbd_commands.proofs.IssueLemmas.{undone, placed_held, placed_empty, issued_as, removed_as, sound_issued}
use Rattle.lnbd_commands.proofs.commands.Commands.issue.Goals as goal

pub put_in-requires-clause-held : goal.put_in-requires-clause-held
put_in-requires-clause-held g c =
    let m : Commands g.row.K.Denot = record { issued = c.self.inside.issued; rows = c.self.inside.table.rows; done = c.self.inside.table.done; log = c.self.inside.desk.log; freed = c.self.inside.freed; room = c.self.inside.desk.room } in
    let next : c.in-Some.cookie ≡ m.issued + 1 = c.in-Some.ensures.1 in
    placed_held m c.in-Some.cookie c.new-place.result c.insert.new.self c.self.inside.table c.admit.new.desk c.self.invariant next c.in_default-insert.ensures.rows c.in_default-insert.ensures.done

pub put_in-requires-clause-empty : goal.put_in-requires-clause-empty
put_in-requires-clause-empty g c =
    let m : Commands g.row.K.Denot = record { issued = c.self.inside.issued; rows = c.self.inside.table.rows; done = c.self.inside.table.done; log = c.self.inside.desk.log; freed = c.self.inside.freed; room = c.self.inside.desk.room } in
    let next : c.in-Some.cookie ≡ m.issued + 1 = c.in-Some.ensures.1 in
    placed_empty m c.in-Some.cookie c.new-place.result c.insert.new.self c.self.inside.table c.admit.new.desk c.self.invariant next c.in_default-insert.ensures.rows c.in_default-insert.ensures.done (ap (λ (r : Row g.row.K.Denot). r.flight) c.new-place.ensures)

pub drop_in-requires-clause-held : goal.drop_in-requires-clause-held
drop_in-requires-clause-held g c =
    let m : Commands g.row.K.Denot = record { issued = c.self.inside.issued; rows = c.self.inside.table.rows; done = c.self.inside.table.done; log = c.self.inside.desk.log; freed = c.self.inside.freed; room = c.self.inside.desk.room } in
    let next : c.in-Some.cookie ≡ m.issued + 1 = c.in-Some.ensures.1 in
    placed_held m c.in-Some.cookie c.new-place.result c.insert.new.self c.self.inside.table c.admit.new.desk c.self.invariant next c.in_default-insert.ensures.rows c.in_default-insert.ensures.done

pub drop_in-requires-clause-empty : goal.drop_in-requires-clause-empty
drop_in-requires-clause-empty g c =
    let m : Commands g.row.K.Denot = record { issued = c.self.inside.issued; rows = c.self.inside.table.rows; done = c.self.inside.table.done; log = c.self.inside.desk.log; freed = c.self.inside.freed; room = c.self.inside.desk.room } in
    let next : c.in-Some.cookie ≡ m.issued + 1 = c.in-Some.ensures.1 in
    placed_empty m c.in-Some.cookie c.new-place.result c.insert.new.self c.self.inside.table c.admit.new.desk c.self.invariant next c.in_default-insert.ensures.rows c.in_default-insert.ensures.done (ap (λ (r : Row g.row.K.Denot). r.flight) c.new-place.ensures)

pub invariant_of-self-in-Ok : goal.invariant_of-self-in-Ok
invariant_of-self-in-Ok g c =
    let m : Commands g.row.K.Denot = record { issued = c.self.inside.issued; rows = c.self.inside.table.rows; done = c.self.inside.table.done; log = c.self.inside.desk.log; freed = c.self.inside.freed; room = c.self.inside.desk.room } in
    let next : c.in-Some.cookie ≡ m.issued + 1 = c.in-Some.ensures.1 in
    let none : is_done (m.issued + 1) m.done ≡ false = undone (m.issued + 1) m.rows m.done c.self.invariant.issued (c.count-held.ensures.sound.held (m.issued + 1)) in
    let row : c.fly.new.self ≡ new_row (request_of m.log.admitted (command_of c.args.asked)) = c.fly.ensures ∙ rw (c.new-row.ensures, c.in-Ok.ensures.flight) refl in
    let is = issued_as m c.in-Some.cookie c.new-place.result c.insert.new.self c.put_in.new.table c.admit.new.desk c.self.invariant next c.in_default-insert.ensures.rows c.in_default-insert.ensures.done (command_of c.args.asked) c.fly.new.self row c.put_in.ensures c.in-Ok.ensures.ok in
    subst (λ (n : Commands g.row.K.Denot). IsSound n) (sym is) (sound_issued m (command_of c.args.asked) c.self.invariant none)

pub returns-in-Ok-clause-ok : goal.returns-in-Ok-clause-ok
returns-in-Ok-clause-ok g c =
    let m : Commands g.row.K.Denot = record { issued = c.self.inside.issued; rows = c.self.inside.table.rows; done = c.self.inside.table.done; log = c.self.inside.desk.log; freed = c.self.inside.freed; room = c.self.inside.desk.room } in
    let next : c.in-Some.cookie ≡ m.issued + 1 = c.in-Some.ensures.1 in
    let row : c.fly.new.self ≡ new_row (request_of m.log.admitted (command_of c.args.asked)) = c.fly.ensures ∙ rw (c.new-row.ensures, c.in-Ok.ensures.flight) refl in
    let is = issued_as m c.in-Some.cookie c.new-place.result c.insert.new.self c.put_in.new.table c.admit.new.desk c.self.invariant next c.in_default-insert.ensures.rows c.in_default-insert.ensures.done (command_of c.args.asked) c.fly.new.self row c.put_in.ensures c.in-Ok.ensures.ok in
    is ∙ ap (λ (n : Commands g.row.K.Denot). issuing (command_of c.args.asked) n) c.self.view_is

pub invariant_of-self-in-Err-admit : goal.invariant_of-self-in-Err-admit
invariant_of-self-in-Err-admit g c =
    let m : Commands g.row.K.Denot = record { issued = c.self.inside.issued; rows = c.self.inside.table.rows; done = c.self.inside.table.done; log = c.self.inside.desk.log; freed = c.self.inside.freed; room = c.self.inside.desk.room } in
    let next : c.in-Some.cookie ≡ m.issued + 1 = c.in-Some.ensures.1 in
    let none : is_done (m.issued + 1) m.done ≡ false = undone (m.issued + 1) m.rows m.done c.self.invariant.issued (c.count-held.ensures.sound.held (m.issued + 1)) in
    let is = removed_as m c.in-Some.cookie c.new-place.result c.insert.new.self c.drop_in.new.table c.admit.new.desk c.self.invariant next c.in_default-insert.ensures.rows c.in_default-insert.ensures.done (rw next none) c.drop_in.ensures c.in-Err-admit.ensures.err in
    subst (λ (n : Commands g.row.K.Denot). IsSound n) (sym is) c.self.invariant

pub returns-in-Err-admit-clause-err : goal.returns-in-Err-admit-clause-err
returns-in-Err-admit-clause-err g c =
    let m : Commands g.row.K.Denot = record { issued = c.self.inside.issued; rows = c.self.inside.table.rows; done = c.self.inside.table.done; log = c.self.inside.desk.log; freed = c.self.inside.freed; room = c.self.inside.desk.room } in
    let next : c.in-Some.cookie ≡ m.issued + 1 = c.in-Some.ensures.1 in
    let none : is_done (m.issued + 1) m.done ≡ false = undone (m.issued + 1) m.rows m.done c.self.invariant.issued (c.count-held.ensures.sound.held (m.issued + 1)) in
    let is = removed_as m c.in-Some.cookie c.new-place.result c.insert.new.self c.drop_in.new.table c.admit.new.desk c.self.invariant next c.in_default-insert.ensures.rows c.in_default-insert.ensures.done (rw next none) c.drop_in.ensures c.in-Err-admit.ensures.err in
    is ∙ c.self.view_is
