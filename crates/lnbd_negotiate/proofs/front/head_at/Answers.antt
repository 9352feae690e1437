use Rattle.std.proofs.Common.{refl}
use Rattle.lnbd_negotiate.proofs.Headed.{head_read}
use Rattle.lnbd_negotiate.proofs.front.head_at.Goals as goal

pub returns : goal.returns
returns c = head_read c.read_head.result c.args.bytes.now ((c.read_head.ensures c.read_head.result).0 refl)
