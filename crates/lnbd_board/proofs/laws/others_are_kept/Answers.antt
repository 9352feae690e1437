use Rattle.lnbd_board.proofs.Turning.{nothing_stands, extents_kept, flush_kept}
use Rattle.lnbd_board.proofs.laws.others_are_kept.Goals as goal

pub returns : goal.returns
returns c = record { nothing = nothing_stands; extents = extents_kept; flush = flush_kept }
