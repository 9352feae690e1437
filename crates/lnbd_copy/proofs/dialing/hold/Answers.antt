use Rattle.std.proofs.Common.{refl}
use Rattle.lnbd_copy.proofs.LinkLemmas.{links_shut_last}
use Rattle.lnbd_copy.proofs.dialing.hold.Goals as goal

pub returns-then-len-ge-MAX_CONNECTIONS-clause-links : goal.returns-then-len-ge-MAX_CONNECTIONS-clause-links
returns-then-len-ge-MAX_CONNECTIONS-clause-links g c = links_shut_last _ _ _ _ _ refl c.shut.ensures.told
