use Rattle.std.proofs.Common.{sym, ◌∙◌}
use Rattle.lnbd_serve.proofs.HallLemmas.{turn_kept, turn_left, turn_breaks}
use Rattle.lnbd_serve.proofs.guests.Guests.turn.Goals as goal

pub returns-then-not-is_done-clause-ok : goal.returns-then-not-is_done-clause-ok
returns-then-not-is_done-clause-ok g c listener limit =
    turn_kept _ _ listener limit c.args.at c.in-Ok.did _ _ c.index.result.now c.requires.rests c.requires.inside c.in-Ok.ensures.ok c.index.ensures (sym c.is_done.ensures ∙ c.if-not-is_done.true)

pub returns-else-not-is_done-clause-ok : goal.returns-else-not-is_done-clause-ok
returns-else-not-is_done-clause-ok g c listener limit =
    let l = c.leave.ensures.left in
    turn_left _ _ _ listener limit c.args.at c.in-Ok.did _ _ _ c.index.result.now l.0 c.requires.rests c.requires.inside c.in-Ok.ensures.ok c.index.ensures (sym c.is_done.ensures ∙ c.if-not-is_done.false) l.1 l.2 (l.3 _)

pub returns-in-Err-clause-err : goal.returns-in-Err-clause-err
returns-in-Err-clause-err g c listener limit = turn_breaks _ _ listener limit c.args.at c.in-Err.why _ _ c.requires.inside c.in-Err.ensures.err
