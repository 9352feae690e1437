use Rattle.lnbd_ask.proofs.asking.issue.Goals as goal
use Rattle.lnbd_waits.proofs.TurnLemmas.{held_one}

pub send-requires : goal.send-requires
send-requires c = held_one c.args.handles.now c.requires.0 c.requires.1

pub clear_log-requires : goal.clear_log-requires
clear_log-requires c = held_one c.send.new.handles _ (c.in-Ok.ensures.ok c.requires.0 c.requires.1)

pub returns-in-Ok-clause-ok : goal.returns-in-Ok-clause-ok
returns-in-Ok-clause-ok c seen at = c.clear_log.ensures _ (c.in-Ok.ensures.ok seen at)
