use Rattle.lnbd_usage.proofs.Talking.{conversations_use_one_link}
use Rattle.lnbd_usage.proofs.laws.conversations_use_one_link.Goals as goal

pub returns : goal.returns
returns c = conversations_use_one_link
