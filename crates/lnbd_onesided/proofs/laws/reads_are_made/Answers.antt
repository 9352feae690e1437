use Rattle.lnbd_onesided.proofs.DeskLemmas.{reads_are_made}
use Rattle.lnbd_onesided.proofs.laws.reads_are_made.Goals as goal

pub returns : goal.returns
returns c = reads_are_made
