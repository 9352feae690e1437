use Rattle.lnbd_board.proofs.Turning.{calls_kept}
use Rattle.lnbd_board.proofs.laws.turns_are_kept.Goals as goal

pub returns : goal.returns
returns c = calls_kept
