use Rattle.std.proofs.Common.{refl}
use Rattle.lnbd_board.proofs.Cutting.{ready_other}
use Rattle.lnbd_board.proofs.Moves.{advances_none}
use Rattle.lnbd_board.proofs.advance.pass.Goals as goal

pub returns-in_default : goal.returns-in_default
returns-in_default c = record {
  on = λ n slice. advances_none c.args.how n slice c.args.stage;
  sits = λ slice k. k;
  ready = ready_other c.args.how.skip c.args.stage c.in_default.not-Holding;
  busy = refl;
  cut = refl;
}
