use Rattle.std.proofs.Common.{subst, sym}
use Rattle.lnbd_arrivals.specs.Frames.{SeenAs}
use Rattle.lnbd_arrivals.specs.declared.replies.Replies.{Replies}
use Rattle.lnbd_arrivals.proofs.frame.look_frame.Goals as goal

pub returns-in-Extended : goal.returns-in-Extended
returns-in-Extended c waited e = subst (λ (r : Replies). SeenAs r waited c.args.bytes.now c.look_extended.result) (sym c.in-Extended.is) (c.look_extended.ensures waited e)

pub returns-in-Simple : goal.returns-in-Simple
returns-in-Simple c waited e = subst (λ (r : Replies). SeenAs r waited c.args.bytes.now c.look_compact.result) (sym c.in-Simple.is) (c.look_compact.ensures waited e)

pub returns-in-Structured : goal.returns-in-Structured
returns-in-Structured c waited e = subst (λ (r : Replies). SeenAs r waited c.args.bytes.now c.look_compact-in-Structured.result) (sym c.in-Structured.is) (c.look_compact-in-Structured.ensures waited e)
