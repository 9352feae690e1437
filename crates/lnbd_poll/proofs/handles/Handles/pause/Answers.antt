use Rattle.lnbd_poll.proofs.HeldLemmas.{wants_same}
use Rattle.lnbd_poll.proofs.handles.Handles.pause.Goals as goal

pub returns-clause-wants : goal.returns-clause-wants
returns-clause-wants g c seen at = wants_same _ seen at
