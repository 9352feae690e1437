use Rattle.lnbd_options.specs.declared.head.Read64.TheVariants.{Value, NeedMore, BadMagic}
use Rattle.lnbd_handle.proofs.SizeLemmas.{option_size_is}
use Rattle.lnbd_handle.proofs.pieces.option_size.Goals as goal

pub returns-in-Value : goal.returns-in-Value
returns-in-Value c = option_size_is (Value c.in-Value.head) c.args.bytes.now ((c.read_head.ensures (Value c.in-Value.head)).0 c.in-Value.is)

pub returns-in-NeedMore : goal.returns-in-NeedMore
returns-in-NeedMore c = option_size_is NeedMore c.args.bytes.now ((c.read_head.ensures NeedMore).0 c.in-NeedMore.is)

pub returns-in-BadMagic : goal.returns-in-BadMagic
returns-in-BadMagic c = option_size_is (BadMagic c.in-BadMagic.field-0) c.args.bytes.now ((c.read_head.ensures (BadMagic c.in-BadMagic.field-0)).0 c.in-BadMagic.is)
