use Rattle.std.proofs.Common.{None}
use Rattle.lnbd_board.specs.Asks.{Advances}
use Rattle.lnbd_board.proofs.Moves.{advances_none, advances_then, cut_steps, cut_sits, on_err}
use Rattle.lnbd_board.proofs.advance.advance.Goals as goal

pub returns-in_err-left-clause-err : goal.returns-in_err-left-clause-err
returns-in_err-left-clause-err c = on_err c.from_residual.result _ (λ n. advances_none c.args.how n c.args.row.now.slice c.args.row.now.stage)

pub part_of-requires : goal.part_of-requires
part_of-requires c = record {
  sits = c.pass-stage.ensures.sits c.args.row.now.slice
      (rw (c.cut.ensures, c.replace-stage.ensures.value) (cut_sits c.args.how c.args.row.now.slice c.args.row.now.stage c.in_ok-left.left c.in_ok-left.ensures c.requires.sits));
}

pub ask-stage-requires-clause-sits : goal.ask-stage-requires-clause-sits
ask-stage-requires-clause-sits c =
    c.pass-stage.ensures.sits c.args.row.now.slice
    (rw (c.cut.ensures, c.replace-stage.ensures.value) (cut_sits c.args.how c.args.row.now.slice c.args.row.now.stage c.in_ok-left.left c.in_ok-left.ensures c.requires.sits))

pub returns-in-Err-clause-sits : goal.returns-in-Err-clause-sits
returns-in-Err-clause-sits c =
    c.pass-stage.ensures.sits c.args.row.now.slice
    (rw (c.cut.ensures, c.replace-stage.ensures.value) (cut_sits c.args.how c.args.row.now.slice c.args.row.now.stage c.in_ok-left.left c.in_ok-left.ensures c.requires.sits))

pub returns-in-Err-clause-err : goal.returns-in-Err-clause-err
returns-in-Err-clause-err c = λ n.
    let cut : Advances c.args.how n c.args.row.now.slice c.args.row.now.stage c.cut.result None =
    rw (c.cut.ensures, c.replace-stage.ensures.value) (cut_steps c.args.how n c.args.row.now.slice c.args.row.now.stage c.in_ok-left.left c.in_ok-left.ensures) in
    advances_then c.args.how n c.args.row.now.slice c.args.row.now.stage c.cut.result c.pass-stage.result None cut (c.pass-stage.ensures.on n c.args.row.now.slice)

pub returns-in-Ok-clause-ok : goal.returns-in-Ok-clause-ok
returns-in-Ok-clause-ok c = λ n.
    let cut : Advances c.args.how n c.args.row.now.slice c.args.row.now.stage c.cut.result None =
    rw (c.cut.ensures, c.replace-stage.ensures.value) (cut_steps c.args.how n c.args.row.now.slice c.args.row.now.stage c.in_ok-left.left c.in_ok-left.ensures) in
    let passed = advances_then c.args.how n c.args.row.now.slice c.args.row.now.stage c.cut.result c.pass-stage.result None cut (c.pass-stage.ensures.on n c.args.row.now.slice) in
    advances_then c.args.how n c.args.row.now.slice c.args.row.now.stage c.pass-stage.result c.ask-stage.result.0 c.ask-stage.result.1 passed (c.ask-stage.ensures.on n)
