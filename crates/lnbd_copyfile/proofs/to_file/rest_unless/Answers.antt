use Rattle.std.proofs.lemmas.Result.{on_ok_weaker}
use Rattle.lnbd_connections.proofs.UseLemmas.{rests_so}
use Rattle.lnbd_copyfile.proofs.to_file.rest_unless.Goals as goal

pub returns-clause-rests : goal.returns-clause-rests
returns-clause-rests g c = rests_so _ _ _ _ _ _ _ _ c.if-happened.false c.rest.ensures.rests

pub returns-clause-pauses : goal.returns-clause-pauses
returns-clause-pauses g c = on_ok_weaker c.rest.result (λ adds still. adds) c.rest.ensures.pauses
