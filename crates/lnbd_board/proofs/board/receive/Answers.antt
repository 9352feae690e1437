use Rattle.std.proofs.Common.{arith, sym, ◌∙◌}
use Rattle.lnbd_board.proofs.Steps.{busy_some}
use Rattle.lnbd_board.proofs.Moves.{not_waiting}
use Rattle.lnbd_board.proofs.board.receive.Goals as goal

pub push_back_reserved-requires : goal.push_back_reserved-requires
push_back_reserved-requires c =
    let b = busy_some c.args.number c.in-Some.row.now c.args.rows.now.rows (sym c.in-Some.ensures.value) (sym c.is_waiting.ensures ∙ c.if-is_waiting.true) in
    let r = c.requires.room in
    let long = c.args.came.now.ok.0 in
    omega (arith, b, r, long)

pub returns-else-is_waiting-clause-rows : goal.returns-else-is_waiting-clause-rows
returns-else-is_waiting-clause-rows c =
    not_waiting c.args.number c.in-Some.row.now c.args.buf c.args.rows.now.rows (sym c.in-Some.ensures.value) (sym c.is_waiting.ensures ∙ c.if-is_waiting.false)
