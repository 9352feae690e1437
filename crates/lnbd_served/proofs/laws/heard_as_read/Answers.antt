use Rattle.lnbd_served.proofs.Hearing.{heard_as_read}
use Rattle.lnbd_served.proofs.laws.heard_as_read.Goals as goal

pub returns : goal.returns
returns c = heard_as_read
