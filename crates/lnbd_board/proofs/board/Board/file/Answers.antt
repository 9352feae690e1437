use Rattle.std.proofs.Common.{sym, ◌∙◌}
use Rattle.lnbd_board.proofs.Kept.{kept_received}
use Rattle.lnbd_board.proofs.board.Board.file.Goals as goal

pub invariant_of-self-in-Slice : goal.invariant_of-self-in-Slice
invariant_of-self-in-Slice c =
    rw (c.receive.ensures.rows, c.receive.ensures.came, c.receive.ensures.capacity)
    (kept_received _ _ _ _ _ _ _ (sym c.is_unfit.ensures ∙ c.if-is_unfit.false) c.self.invariant)
