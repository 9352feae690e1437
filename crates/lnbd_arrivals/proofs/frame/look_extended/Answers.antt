use Rattle.std.proofs.Common.{◌∙◌, Some, ap, sym, arith}
use Rattle.lnbd_history.specs.Arrivals.{Broken}
use Rattle.lnbd_arrivals.specs.Heads.{magic_breach}
use Rattle.lnbd_records.specs.Transmission.{extended_head_size, extended_reply_magic}
use Rattle.lnbd_arrivals.specs.declared.replies.Replies.TheVariants.{Extended}
use Rattle.lnbd_arrivals.proofs.Frames.{extended_cut, not_extended}
use Rattle.lnbd_arrivals.proofs.Fronts.{cut_says}
use Rattle.lnbd_arrivals.proofs.frame.look_extended.Goals as goal

pub returns-in-Value : goal.returns-in-Value
returns-in-Value c waited e = c.look_chunk.ensures waited (e (omega (arith, c.in-Value.ensures.there)))

pub returns-in-NeedMore : goal.returns-in-NeedMore
returns-in-NeedMore c waited e = (extended_cut waited c.args.bytes.now c.in-NeedMore.ensures, cut_says Extended waited extended_reply_magic extended_head_size c.args.bytes.now (omega arith) (omega arith) c.in-NeedMore.ensures)

pub returns-in-BadMagic : goal.returns-in-BadMagic
returns-in-BadMagic c waited e =
    not_extended waited c.args.bytes.now c.in-BadMagic.ensures.1.there c.in-BadMagic.ensures.1.differs
    ∙ ap (λ breach. Some (Broken breach)) (ap magic_breach (sym c.in-BadMagic.ensures.0) ∙ sym c.magic_breach.ensures)
