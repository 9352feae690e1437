use Rattle.std.proofs.Common.{◌≡◌, [], sym, ◌∙◌, ap, refl}
use Rattle.lnbd_inflight.specs.Table.{Table}
use Rattle.lnbd_machine.specs.Machine.{Row}
use Rattle.lnbd_commands.specs.Commands.{Commands}
use Rattle.lnbd_commands.proofs.CloseLemmas.{close_begins, close_step, closed, first_left, halfway}
use Rattle.lnbd_commands.proofs.commands.Commands.close.Goals as goal

pub loop-cookie-init : goal.loop-cookie-init
loop-cookie-init g c =
    let m : Commands g.row.K.Denot = record { issued = c.self.inside.issued; rows = c.self.inside.table.rows; done = c.self.inside.table.done; log = c.self.inside.desk.log; freed = c.self.inside.freed; room = c.self.inside.desk.room } in
    rw (← c.self.view_is) (close_begins g.K.Caller.steps m c.args.world.now (g.met.K.Caller.empty c.args.world.now) c.self.invariant)

pub end_row-freed-requires : goal.end_row-freed-requires
end_row-freed-requires g c =
    let inv = rw c.in-Some.ensures.rows at c.loop-cookie.invariant in
    (first_left g.K.Caller.steps c.args.self c.args.world.now (c.in-Some._cookie, c.in-Some.row) c.take_first.new.self.rows c.loop-cookie.desk.log c.loop-cookie.freed c.loop-cookie.world inv).live

pub loop-cookie-preserved : goal.loop-cookie-preserved
loop-cookie-preserved g c =
    let inv = rw c.in-Some.ensures.rows at c.loop-cookie.invariant in
    rw (c.end_row-freed.ensures.desk, c.end_row-freed.ensures.count)
    (close_step g.K.Caller.steps c.args.self c.args.world.now (c.in-Some._cookie, c.in-Some.row) c.take_first.new.self.rows c.loop-cookie.desk.log c.loop-cookie.freed c.loop-cookie.world c.end_row-freed.new.world
    g.met.K.Caller.append inv c.end_row-freed.ensures.world)

pub finish-requires : goal.finish-requires
finish-requires g c =
    let gone : c.loop-cookie.table.rows ≡ [] = c.in_default.ensures.none.0 refl in
    ap (λ (t : Table (Row g.row.K.Denot)). t.rows) c.in_default.ensures.unchanged ∙ gone

pub returns-clause-takes : goal.returns-clause-takes
returns-clause-takes g c =
    let gone : c.loop-cookie.table.rows ≡ [] = c.in_default.ensures.none.0 refl in
    let inv = c.loop-cookie.invariant in (
      halfway c.args.self inv.front c.loop-cookie.table.rows c.loop-cookie.desk.log c.loop-cookie.freed,
      closed g.K.Caller.steps c.args.self c.args.world.now c.loop-cookie.table.rows c.loop-cookie.desk.log c.loop-cookie.freed c.loop-cookie.world gone inv,
      c.from_vec.ensures ∙ c.into_notes.ensures,
      c.admitted-opened.ensures.count ∙ (ap (λ (m : Commands g.row.K.Denot). m.log.admitted) c.self.view_is ∙ sym inv.admitted),
      refl,
    )
