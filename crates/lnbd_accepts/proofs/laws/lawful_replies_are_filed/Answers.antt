use Rattle.lnbd_accepts.proofs.Filed.{lawful_replies_are_filed}
use Rattle.lnbd_accepts.proofs.laws.lawful_replies_are_filed.Goals as goal

pub returns : goal.returns
returns g c = lawful_replies_are_filed
