use Rattle.std.proofs.Common.{◌≡◌, ℕ, None, ◌<◌, ◌≤◌, ◌-◌, ◌+◌, suc, ap, sym, ◌∙◌, arith, refl}
use Rattle.lnbd_keyed.specs.Keyed.{value_at}
use Rattle.lnbd_history.specs.Entries.{Lost}
use Rattle.lnbd_history.specs.History.{cookies}
use Rattle.lnbd_machine.specs.Machine.{file_all, file_in}
use Rattle.lnbd_commands.specs.Commands.{Commands}
use Rattle.lnbd_commands.specs.Rows.{flight_of_row}
use Rattle.lnbd_commands.proofs.LoseLemmas.{takes_none, takes_then, takes_keys, takes_calm, one_more_at, calm_between, calm_after, waits_undone, filed_issued, held_below}
use Rattle.lnbd_commands.proofs.commands.Commands.lose_all.Goals as goal

pub loop-cookie-init : goal.loop-cookie-init
loop-cookie-init g c = (
  omega arith,
  refl,
  takes_none g.K.Caller.steps (file_all Lost (cookies 0)) c.args.self.now c.args.world.now (g.met.K.Caller.empty c.args.world.now) (λ state more made. refl),
)

pub lose-requires : goal.lose-requires
lose-requires g c =
    let a = c.self-in-loop-cookie.inside in
    let m : Commands g.row.K.Denot = record { issued = a.issued; rows = a.table.rows; done = a.table.done; log = a.desk.log; freed = a.freed; room = a.desk.room } in
    rw (← c.self-in-loop-cookie.view_is) (waits_undone c.in-Some.cookie m c.self-in-loop-cookie.invariant c.in-Some.ensures.held c.in-Some.ensures.undone)

pub loop-cookie-smaller : goal.loop-cookie-smaller
loop-cookie-smaller g c =
    let below = held_below (c.self-in-loop-cookie.inside.issued + 1) c.in-Some.cookie c.self-in-loop-cookie.inside.table.rows c.self-in-loop-cookie.invariant.issued c.in-Some.ensures.held in
    let same : c.self-in-loop-cookie.inside.issued ≡ c.loop-cookie.self.issued = ap (λ s. s.issued) c.self-in-loop-cookie.view_is in
    let above : c.loop-cookie.lost < c.in-Some.cookie = c.in-Some.ensures.above in
    omega (arith, below, same, above, c.loop-cookie.invariant.1)

pub loop-cookie-preserved : goal.loop-cookie-preserved
loop-cookie-preserved g c =
    let a = c.self-in-loop-cookie.inside in
    let m : Commands g.row.K.Denot = record { issued = a.issued; rows = a.table.rows; done = a.table.done; log = a.desk.log; freed = a.freed; room = a.desk.room } in
    let inv = c.loop-cookie.invariant in
    let lost = c.loop-cookie.lost in
    let cookie = c.in-Some.cookie in
    let above : lost < cookie = c.in-Some.ensures.above in
    let below = held_below (m.issued + 1) cookie m.rows c.self-in-loop-cookie.invariant.issued c.in-Some.ensures.held in
    let same : m.issued ≡ c.loop-cookie.self.issued = ap (λ s. s.issued) c.self-in-loop-cookie.view_is in
    let found = sym c.next_undone.ensures.first ∙ c.in-Some.is in
    let calm : (n : ℕ) → lost < n → n ≤ cookie - 1 → flight_of_row (value_at n c.loop-cookie.self.rows) ≡ None =
    λ n over under. ap (λ (s : Commands g.row.K.Denot). flight_of_row (value_at n s.rows)) (sym c.self-in-loop-cookie.view_is) ∙ calm_between lost cookie n m.done m.rows c.self-in-loop-cookie.invariant.cookies c.self-in-loop-cookie.invariant.rows found over (omega (arith, above, under)) in
    let before = takes_calm g.K.Caller.steps Lost lost (cookie - 1) c.args.self.now c.loop-cookie.self c.args.world.now c.loop-cookie.world (omega (arith, above)) calm inv.2 in
    let next : cookie ≡ suc (cookie - 1) = omega (arith, above) in (
      omega (arith, below, same, inv.1),
      filed_issued g.K.Caller.steps cookie Lost c.loop-cookie.self c.lose.new.self c.loop-cookie.world c.lose.new.world c.lose.ensures ∙ inv.1,
      takes_then g.K.Caller.steps (file_all Lost (cookies (cookie - 1))) (file_in cookie Lost) (file_all Lost (cookies cookie))
          c.args.self.now c.loop-cookie.self c.lose.new.self c.args.world.now c.loop-cookie.world c.lose.new.world g.met.K.Caller.append
          (λ doing. one_more_at Lost (cookie - 1) cookie doing next) before c.lose.ensures,
    )

pub returns : goal.returns
returns g c =
    let a = c.self-in-loop-cookie.inside in
    let m : Commands g.row.K.Denot = record { issued = a.issued; rows = a.table.rows; done = a.table.done; log = a.desk.log; freed = a.freed; room = a.desk.room } in
    let inv = c.loop-cookie.invariant in
    let found = sym c.next_undone.ensures.first ∙ c.in_default.is in
    let calm : (n : ℕ) → c.loop-cookie.lost < n → n ≤ c.args.self.now.issued → flight_of_row (value_at n c.loop-cookie.self.rows) ≡ None =
    λ n over under. ap (λ (s : Commands g.row.K.Denot). flight_of_row (value_at n s.rows)) (sym c.self-in-loop-cookie.view_is) ∙ calm_after c.loop-cookie.lost n m.done m.rows c.self-in-loop-cookie.invariant.rows found over in
    let all = takes_calm g.K.Caller.steps Lost c.loop-cookie.lost c.args.self.now.issued c.args.self.now c.loop-cookie.self c.args.world.now c.loop-cookie.world inv.0 calm inv.2 in
    takes_keys g.K.Caller.steps Lost c.args.self.now c.loop-cookie.self c.args.world.now c.loop-cookie.world (rw c.self.view_is at c.self.invariant) all
