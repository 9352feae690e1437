use Rattle.std.proofs.Common.{ℕ, ap, ◌∙◌, nat_lt}
use Rattle.lnbd_outgoing.specs.Queue.{left}
use Rattle.lnbd_outgoing.proofs.QueueLemmas.{left_is_offered}
use Rattle.lnbd_handle.specs.Seen.{writes_in}
use Rattle.lnbd_handle.proofs.SendLemmas.{offers}
use Rattle.lnbd_handle.proofs.sending.is_offering.Goals as goal

pub returns : goal.returns
returns g c =
    let queue = c.args.connection.now.queue in
    offers c.is_empty.result (left queue) c.is_empty.ensures.left ∙ ap (λ (n : ℕ). nat_lt 0 n) (left_is_offered (writes_in c.args.connection.now.commands) queue c.requires.fits)
