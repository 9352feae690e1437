use Rattle.std.proofs.Common.{refl}
use Rattle.lnbd_arrivals.proofs.Headed.{simple_read}
use Rattle.lnbd_arrivals.proofs.heads.simple_head.Goals as goal

pub returns : goal.returns
returns c = simple_read c.read_simple.result c.args.bytes.now ((c.read_simple.ensures c.read_simple.result).0 refl)
