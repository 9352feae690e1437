use Rattle.std.proofs.Common.{◌∙◌, sym, arith}
use Rattle.lnbd_records.specs.Transmission.{chunk_head_size, structured_reply_magic}
use Rattle.lnbd_arrivals.specs.Frames.{is_extended}
use Rattle.lnbd_arrivals.proofs.Frames.{chunk_front, compact_cut, head_least, no_agreed, not_agreed}
use Rattle.lnbd_arrivals.proofs.Fronts.{cut_says}
use Rattle.lnbd_arrivals.proofs.frame.look_structured.Goals as goal

pub returns-then-not-is_structured : goal.returns-then-not-is_structured
returns-then-not-is_structured c waited e =
    not_agreed c.args.replies waited c.args.bytes.now c.requires.compact c.requires.other.there c.requires.other.differs (sym c.is_structured.ensures ∙ c.if-not-is_structured.true)

pub returns-in-Value : goal.returns-in-Value
returns-in-Value c waited e = c.look_chunk.ensures waited (e (omega (arith, c.in-Value.ensures.there)))

pub returns-in-NeedMore : goal.returns-in-NeedMore
returns-in-NeedMore c waited e =
    let agreed = sym c.is_structured.ensures ∙ c.if-not-is_structured.false in
    let size = chunk_front c.args.replies agreed in
    let least = head_least (is_extended c.args.replies) in (
      compact_cut c.args.replies waited c.args.bytes.now c.requires.compact agreed c.in-NeedMore.ensures,
      cut_says c.args.replies waited structured_reply_magic chunk_head_size c.args.bytes.now (omega arith) (omega (arith, size, least)) c.in-NeedMore.ensures,
    )

pub returns-in-BadMagic : goal.returns-in-BadMagic
returns-in-BadMagic c waited e =
    no_agreed c.args.replies waited c.args.bytes.now c.requires.compact c.requires.other.there c.requires.other.differs (sym c.is_structured.ensures ∙ c.if-not-is_structured.false) c.in-BadMagic.ensures.1.differs
