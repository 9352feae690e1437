use Rattle.std.proofs.Common.{◌≡◌, List, [], ap, ◌∙◌}
use Rattle.lnbd_plan.specs.declared.grid.Slice.{Slice}
use Rattle.lnbd_board.specs.declared.row.Stage.TheVariants.{Holding}
use Rattle.lnbd_board.proofs.Cutting.{over_other}
use Rattle.lnbd_board.proofs.Moves.{advances_none, end_step}
use Rattle.lnbd_board.proofs.advance.ask.Goals as goal

pub returns-in-None-clause-on : goal.returns-in-None-clause-on
returns-in-None-clause-on c = λ n.
    let e : c.args.stage ≡ Holding c.in-Holding.bytes [] = c.in-Holding.is ∙ ap (λ (l : List Slice). Holding c.in-Holding.bytes l) c.in-None.ensures.none in
    rw e (end_step c.args.how n c.args.slice c.in-Holding.bytes)

pub returns-in_default : goal.returns-in_default
returns-in_default c = record {
  on = λ n. advances_none c.args.how n c.args.slice c.args.stage;
  inside = tt;
  sits = c.requires.sits;
  busy = c.requires.idle;
  over = over_other c.args.stage c.in_default.not-Holding c.requires.idle c.requires.whole;
}
