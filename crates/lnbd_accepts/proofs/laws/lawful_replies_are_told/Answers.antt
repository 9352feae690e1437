use Rattle.lnbd_accepts.proofs.Replies.{lawful_replies_are_told}
use Rattle.lnbd_accepts.proofs.laws.lawful_replies_are_told.Goals as goal

pub returns : goal.returns
returns g c = lawful_replies_are_told
