use Rattle.std.proofs.Common.{sym, subst, List}
use Rattle.lnbd_plan.specs.declared.grid.Slice.{Slice}
use Rattle.lnbd_board.specs.Asks.{Passes}
use Rattle.lnbd_board.proofs.Cutting.{took_passed, fewer_left}
use Rattle.lnbd_board.proofs.Moves.{passes_none, passes_first, passes_then}
use Rattle.lnbd_board.proofs.advance.pass_over.Goals as goal

pub pieces-init : goal.pieces-init
pieces-init c = passes_none c.args.how c.args.left.now

pub pieces-smaller : goal.pieces-smaller
pieces-smaller c =
    fewer_left c.args.how.skip c.pieces.left c.pop-piece.new.self
    (took_passed c.args.how.skip c.pieces.left c.pop-piece.new.self c.pop-piece.result (c.is_passed.ensures.yes c.pieces-test.true) c.pop-piece.ensures.pieces c.pop-piece.ensures.none)

pub pieces-preserved : goal.pieces-preserved
pieces-preserved c =
    let t = took_passed c.args.how.skip c.pieces.left c.pop-piece.new.self c.pop-piece.result (c.is_passed.ensures.yes c.pieces-test.true) c.pop-piece.ensures.pieces c.pop-piece.ensures.none in
    passes_then c.args.how c.args.left.now c.pieces.left c.pop-piece.new.self c.pieces.invariant
    (subst (λ (l : List Slice). Passes c.args.how l c.pop-piece.new.self) (sym t.was) (passes_first c.args.how t.piece c.pop-piece.new.self t.skips t.zero))
