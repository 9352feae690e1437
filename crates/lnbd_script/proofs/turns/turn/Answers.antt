use Rattle.std.proofs.Common.{◌||◌, Bool, ◌∙◌, ap}
use Rattle.lnbd_script.proofs.TurnLemmas.{turned, turned_short, turned_whole}
use Rattle.lnbd_script.proofs.turns.turn.Goals as goal

pub returns-in-Ok-clause-ok : goal.returns-in-Ok-clause-ok
returns-in-Ok-clause-ok g c =
    turned _ _ _ _ _ _ c.args.link c.write_all-wrote.result c.read.result c.write_all-wrote.ensures.writes c.read.ensures.told c.in-Ok.moved _ c.in-Ok.is (c.either.ensures ∙ ap (λ (b : Bool). c.write_all-wrote.result || b) c.is_stirring.ensures)

pub returns-in-Ok-clause-unread : goal.returns-in-Ok-clause-unread
returns-in-Ok-clause-unread g c = turned_whole _ _ _ _ _ _ c.write_all-wrote.ensures.writes c.in-Ok.ensures.unread

pub returns-in-Err-clause-short : goal.returns-in-Err-clause-short
returns-in-Err-clause-short g c = turned_short _ _ _ _ _ _ c.args.link c.write_all-wrote.result c.read.result c.write_all-wrote.ensures.writes c.read.ensures.told _ c.in-Err.is
