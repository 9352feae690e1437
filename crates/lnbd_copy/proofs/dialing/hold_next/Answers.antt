use Rattle.std.proofs.Common.{refl}
use Rattle.lnbd_copy.proofs.LinkLemmas.{links_kept_last, links_shut_last}
use Rattle.lnbd_copy.proofs.dialing.hold_next.Goals as goal

pub returns-in-Ok-clause-links : goal.returns-in-Ok-clause-links
returns-in-Ok-clause-links g c = links_kept_last _ _ _ _ _ c.in-Ok.ensures.added refl

pub returns-in-Err-clause-links : goal.returns-in-Err-clause-links
returns-in-Err-clause-links g c = links_shut_last _ _ _ _ _ c.in-Err.ensures.unchanged c.shut.ensures.told
