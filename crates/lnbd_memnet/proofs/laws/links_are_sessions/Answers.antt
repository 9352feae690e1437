use Rattle.lnbd_memnet.proofs.Lives.{links_are_sessions}
use Rattle.lnbd_memnet.proofs.laws.links_are_sessions.Goals as goal

pub returns : goal.returns
returns c = links_are_sessions
