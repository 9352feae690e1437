use Rattle.lnbd_records.specs.Transmission.{structured_reply_magic}
use Rattle.lnbd_wire.specs.declared.read.Read.TheVariants.{Value, NeedMore, BadMagic}
use Rattle.lnbd_arrivals.proofs.Headed.{compact_by, cut_by, other_by}
use Rattle.lnbd_arrivals.proofs.heads.compact_head.Goals as goal

pub returns-in-Value : goal.returns-in-Value
returns-in-Value c = rw c.from.ensures (compact_by c.in-Value.head c.args.bytes.now ((c.read_chunk_head.ensures (Value c.in-Value.head)).0 c.in-Value.is))

pub returns-in-NeedMore : goal.returns-in-NeedMore
returns-in-NeedMore c = cut_by structured_reply_magic 20 c.args.bytes.now ((c.read_chunk_head.ensures NeedMore).0 c.in-NeedMore.is)

pub returns-in-BadMagic : goal.returns-in-BadMagic
returns-in-BadMagic c = other_by structured_reply_magic c.in-BadMagic.magic c.args.bytes.now ((c.read_chunk_head.ensures (BadMagic c.in-BadMagic.magic)).0 c.in-BadMagic.is)
