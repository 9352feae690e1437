use Rattle.std.proofs.Common.{ℕ, Bool, ◌++◌, ◌∷◌, [], sym, ap, ◌∙◌, if◌then◌else◌}
use Rattle.lnbd_history.specs.Outgoing.{plain, last_of}
use Rattle.lnbd_outgoing.specs.Pieces.{head_bytes}
use Rattle.lnbd_outgoing.specs.Queue.{waits}
use Rattle.lnbd_handle.specs.Queued.{parts_of}
use Rattle.lnbd_handle.proofs.IssueLemmas.{nonzero}
use Rattle.lnbd_handle.proofs.issue.queue_request.Goals as goal

pub returns-then-size-eq0-clause-waits : goal.returns-then-size-eq0-clause-waits
returns-then-size-eq0-clause-waits c writes =
    c.push.ensures.waits writes ∙ ap (λ (n : ℕ). waits writes c.args.queue.now ++ parts_of (head_bytes c.args.head) n (writes c.args.cookie)) (sym c.if-size-eq0.true)

pub returns-then-size-eq0-clause-fits : goal.returns-then-size-eq0-clause-fits
returns-then-size-eq0-clause-fits c writes sized all = c.push.ensures.fits writes tt all

pub returns-else-size-eq0-clause-waits : goal.returns-else-size-eq0-clause-waits
returns-else-size-eq0-clause-waits c writes =
    c.push_write.ensures.waits writes
    ∙ ap (λ (b : Bool). waits writes c.args.queue.now ++ (if b then last_of (head_bytes c.args.head) ∷ [] else plain (head_bytes c.args.head) ∷ last_of (writes c.args.cookie) ∷ [])) (sym (nonzero c.args.size c.if-size-eq0.false))
