use Rattle.std.proofs.Common.{refl}
use Rattle.lnbd_arrivals.proofs.Headed.{extended_read}
use Rattle.lnbd_arrivals.proofs.heads.chunk_head.Goals as goal

pub returns-then-extended : goal.returns-then-extended
returns-then-extended c = rw c.if-extended.true (extended_read c.read_chunk_head_ext.result c.args.bytes.now ((c.read_chunk_head_ext.ensures c.read_chunk_head_ext.result).0 refl))
