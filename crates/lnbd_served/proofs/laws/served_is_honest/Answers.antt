use Rattle.lnbd_served.proofs.Honest.{served_is_honest}
use Rattle.lnbd_served.proofs.laws.served_is_honest.Goals as goal

pub returns : goal.returns
returns c = served_is_honest
