use Rattle.lnbd_callbacks.proofs.LiveLemmas.{remove_entry-without}
use Rattle.lnbd_callbacks.proofs.live.strike.Goals as goal

pub returns : goal.returns
returns c = rw c.remove.ensures.entries (remove_entry-without c.args.number c.args.live.now.entries)
