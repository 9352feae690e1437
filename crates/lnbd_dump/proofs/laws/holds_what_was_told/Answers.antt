use Rattle.lnbd_dump.proofs.TellLemmas.{holds_told}
use Rattle.lnbd_dump.proofs.laws.holds_what_was_told.Goals as goal

pub returns : goal.returns
returns c = holds_told
