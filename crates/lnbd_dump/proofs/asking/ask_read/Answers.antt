use Rattle.std.proofs.Common.{false}
use Rattle.lnbd_dump.proofs.AskLemmas.{sized}
use Rattle.lnbd_dump.proofs.LeadLemmas.{leads_none}
use Rattle.lnbd_dump.proofs.asking.ask_read.Goals as goal

pub returns-in-Ok-clause-asks : goal.returns-in-Ok-clause-asks
returns-in-Ok-clause-asks c = sized c.args.handles.now c.ask_into.new.handles c.ask_into.result c.args.offset _ c.args.size c.in-Ok.ensures c.ask_into.ensures.asks

pub returns-in-Err-clause-asks : goal.returns-in-Err-clause-asks
returns-in-Err-clause-asks c seen at = (seen, at, leads_none false seen, (tt, (λ info w. w), tt))
