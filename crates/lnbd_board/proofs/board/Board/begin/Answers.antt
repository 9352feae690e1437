use Rattle.std.proofs.Common.{refl, ap, sym, subst, ◌∙◌, arith, deque_capacity}
use Rattle.lnbd_board.specs.declared.row.Row.{Row}
use Rattle.lnbd_board.specs.Files.{Seen}
use Rattle.lnbd_board.specs.Rows.{is_busy}
use Rattle.lnbd_board.specs.declared.row.Stage.{Stage}
use Rattle.lnbd_board.specs.Asks.{Begins, Sits}
use Rattle.lnbd_board.proofs.Kept.{kept_begun, first_busy, first_sits}
use Rattle.lnbd_board.proofs.Going.{begins_as}
use Rattle.lnbd_board.proofs.board.Board.begin.Goals as goal

pub invariant_of-self-2 : goal.invariant_of-self-2
invariant_of-self-2 c =
    let row : Row = record { slice = c.args.slice; source = c.args.source; destination = c.args.destination; stage = c.stage_of.result } in
    let long = c.self.inside.came.ok.0 in
    let len = c.reserve.ensures.len in
    let room = c.in_ok-reserve.ensures.ok in
    let one = c.in-Some-checked_add.ensures.1 in
    let count = c.count.ensures.count in
    let k = kept_begun c.self.inside.how c.self.inside.begun row c.self.inside.rows.rows c.self.inside.came.items (deque_capacity c.self.inside.came) (deque_capacity c.reserve.new.self)
    (ap is_busy c.stage_of.ensures ∙ first_busy c.args.slice.zero) c.requires.room (subst (λ (x : Stage). Sits c.self.inside.how c.args.slice x) (sym c.stage_of.ensures) (first_sits c.self.inside.how c.args.slice c.args.slice.zero refl)) (omega (arith, long, len, room, one, count)) c.self.invariant in
    rw (c.in-Ok.ensures.rows, c.reserve.ensures.items, c.in-Some.ensures.1) k

pub returns-clause-ok : goal.returns-clause-ok
returns-clause-ok c =
    let row : Row = record { slice = c.args.slice; source = c.args.source; destination = c.args.destination; stage = c.stage_of.result } in
    subst (λ (s : Seen). Begins s.how c.args.slice s.begun c.in_ok-one.one s.rows c.insert.new.self.rows) c.self.view_is
    (begins_as c.self.inside.how c.args.slice c.self.inside.begun c.in_ok-one.one row c.self.inside.rows.rows c.insert.new.self.rows c.in_ok-one.ensures.first refl c.stage_of.ensures c.in-Ok.ensures.rows)
