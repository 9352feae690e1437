use Rattle.lnbd_callbacks.proofs.LiveLemmas.{insert_entry-last}
use Rattle.lnbd_callbacks.proofs.live.enlist.Goals as goal

pub returns-in-Ok-clause-ok : goal.returns-in-Ok-clause-ok
returns-in-Ok-clause-ok c = rw (c.in-Ok.ensures.entries) (insert_entry-last c.args.number _ c.args.live.now.entries c.requires)
