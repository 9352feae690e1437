use Rattle.std.proofs.Common.{arith}
use Rattle.lnbd_records.specs.Transmission.{simple_head_size, simple_reply_magic}
use Rattle.lnbd_arrivals.proofs.Frames.{simple_cut}
use Rattle.lnbd_arrivals.proofs.Fronts.{cut_says, least_front}
use Rattle.lnbd_arrivals.proofs.frame.look_compact.Goals as goal

pub returns-in-Value : goal.returns-in-Value
returns-in-Value c waited e = c.look_simple.ensures waited (e (omega (arith, c.in-Value.ensures.there)))

pub returns-in-NeedMore : goal.returns-in-NeedMore
returns-in-NeedMore c waited e = (
  simple_cut c.args.replies waited c.args.bytes.now c.requires c.in-NeedMore.ensures,
  cut_says c.args.replies waited simple_reply_magic simple_head_size c.args.bytes.now (omega arith) (least_front c.args.replies) c.in-NeedMore.ensures,
)
