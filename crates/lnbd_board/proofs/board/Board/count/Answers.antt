use Rattle.std.proofs.Common.{◌≡◌, ap, subst, ◌∙◌, length}
use Rattle.lnbd_board.specs.Files.{Seen}
use Rattle.lnbd_board.specs.Rows.{busy}
use Rattle.lnbd_board.proofs.Kept.{all_busy}
use Rattle.lnbd_board.proofs.board.Board.count.Goals as goal

pub returns-clause-quiet : goal.returns-clause-quiet
returns-clause-quiet c = λ none.
    subst (λ (s : Seen). busy s.rows ≡ length s.rows) c.self.view_is
    (all_busy c.self.inside.how c.self.inside.rows.rows c.self.inside.came.items _ _ c.self.invariant (ap (λ (s : Seen). s.came) c.self.view_is ∙ none))
